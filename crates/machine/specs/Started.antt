-- What a start comes to. Assumes nothing.
use Rattle.std.specs.Prelude.{◌≡◌, ℕ, List, Ok, Err, Result}
use Rattle.transaction.specs.Programs.{program_of}
use Rattle.image.specs.Reading.{Answer}
use Rattle.image.specs.Reading.Answer.{good, bad}
use Rattle.resolving.specs.declared.packet.Packet.{Packet as Row}
use Rattle.book.specs.Run.{one_alone}
use Rattle.book.specs.Right.{Right}
use Rattle.book.specs.Agrees.{Fresh}
use Rattle.plans.specs.Pipeline.{pipeline_of}
use Rattle.compiler.specs.Planned.{ImagePlanned}
use Rattle.machine.specs.declared.fault.StartFault.{StartFault}
use Rattle.machine.specs.declared.machine.Machine.{Machine}
use Rattle.machine.specs.Faults.{start_refusal}
use Rattle.machine.specs.Held.{contents}

-- what is told: the number of stages, or the refusal
abbrev pub begun : {A : Type 0} → Result (Unit {0}) StartFault → Machine A → Answer ℕ
begun (Ok u) m = good m.plan.placement.stages.count
begun (Err f) m = bad (start_refusal f)

module _ (plus minus : ℕ → ℕ → ℕ) (ran : List ℕ → ℕ → Row → ℕ) (image : List ℕ) (d p q : ℕ) where
  -- a machine at the start of a plan of the image: its pipeline is right for the serial run of the plan's transaction
  pub record Begins {A : Type 0} (m : Machine A) : Type 0 where
    pub planned : ImagePlanned plus minus ran image d p q m.plan
    pub fresh : Fresh (pipeline_of plus minus ran m.plan) (contents m)
    pub right : Right (pipeline_of plus minus ran m.plan) (one_alone plus minus (program_of m.plan.transaction))

  -- a refused start changes nothing
  abbrev pub Started : {A : Type 0} → Result (Unit {0}) StartFault → Machine A → Machine A → Type 0
  Started (Ok u) m m' = Begins m' × (m'.atom ≡ m.atom)
  Started (Err f) m m' = m' ≡ m
