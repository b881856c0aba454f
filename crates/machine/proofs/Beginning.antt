-- Machines at their start. Assumes nothing.
use Rattle.std.proofs.Common.{◌≡◌, ℕ, List, sym, subst}
use Rattle.transaction.specs.WellFormed.{Program}
use Rattle.transaction.specs.Programs.{program_of}
use Rattle.resolving.specs.declared.packet.Packet.{Packet as Row}
use Rattle.stages.specs.declared.limits.Limits.{Limits}
use Rattle.book.specs.Agrees.{Fresh}
use Rattle.book.specs.Run.{one_alone}
use Rattle.book.specs.Right.{Right}
use Rattle.book.specs.Theorem.{WordsToWords}
use Rattle.plans.specs.declared.plan.Plan.{Plan}
use Rattle.plans.specs.Pipeline.{pipeline_of}
use Rattle.plans.specs.Sound.{Sound}
use Rattle.plans.proofs.Rightness.{sound_plans_right}
use Rattle.compiler.specs.Planned.{ImagePlanned}
use Rattle.machine.specs.declared.machine.Machine.{Machine}
use Rattle.machine.specs.Held.{contents}
use Rattle.machine.specs.Started.{Begins}

module _ (plus minus : ℕ → ℕ → ℕ) (ran : List ℕ → ℕ → Row → ℕ) where
  module _ (sums : WordsToWords plus) (differences : WordsToWords minus) where
    pub right_for : (limits : Limits) (plan : Plan) (p : Program) → Sound plus minus ran limits plan → program_of plan.transaction ≡ p → Right (pipeline_of plus minus ran plan) (one_alone plus minus p)
    right_for limits plan p s e =
        subst (λ (x : Program). Right (pipeline_of plus minus ran plan) (one_alone plus minus x)) e (sound_plans_right plus minus ran limits plan sums differences s)

    pub begins : {A : Type 0} (image : List ℕ) (d p q : ℕ) (plan : Plan) (m : Machine A) → m.plan ≡ plan → ImagePlanned plus minus ran image d p q plan → Fresh (pipeline_of plus minus ran plan) (contents m) → Begins plus minus ran image d p q m
    begins image d p q plan m e x f =
        record {
          planned = subst (λ (y : Plan). ImagePlanned plus minus ran image d p q y) (sym e) x;
          fresh = subst (λ (y : Plan). Fresh (pipeline_of plus minus ran y) (contents m)) (sym e) f;
          right = subst (λ (y : Plan). Right (pipeline_of plus minus ran y) (one_alone plus minus (program_of y.transaction))) (sym e) (sound_plans_right plus minus ran x.limits plan sums differences x.planned.sound);
        }
