-- What a plan is. Assumes nothing.
use Rattle.std.specs.Prelude.{◌≡◌, ℕ, ◌<◌, List, Ok, Err, Result}
use Rattle.transaction.specs.declared.transaction.Transaction.{Transaction}
use Rattle.transaction.specs.Programs.{program_of}
use Rattle.image.specs.Reading.{good, image_says}
use Rattle.stages.specs.declared.limits.Limits.{Limits}
use Rattle.stages.specs.Filling.{stage_of}
use Rattle.placement.specs.Placement.{stage_at}
use Rattle.resolving.specs.declared.packet.Packet.{Packet}
use Rattle.plans.specs.declared.plan.Plan.{Plan}
use Rattle.plans.specs.Pipeline.{lines_in}
use Rattle.plans.specs.Sound.{Sound}
use Rattle.compiler.specs.declared.fault.CompileFault.{CompileFault}
use Rattle.compiler.specs.Verdict.{nodes_of}

-- a plan of a transaction within limits
pub record PlanOf (plus minus : ℕ → ℕ → ℕ) (ran : List ℕ → ℕ → Packet → ℕ) (t : Transaction) (limits : Limits) (plan : Plan) : Type 0 where
  pub transaction : plan.transaction ≡ t
  -- each node's stage is the definition's
  pub stages : (n : ℕ) → n < 208 → stage_at plan.placement n ≡ stage_of (nodes_of (lines_in plan)) limits.lines limits.atoms n
  -- its lines mean what the statements mean, and each named state's setting is right for its update
  pub sound : Sound plus minus ran limits plan

abbrev pub TransactionPlanned : (plus minus : ℕ → ℕ → ℕ) (ran : List ℕ → ℕ → Packet → ℕ) → Transaction → Limits → Result Plan CompileFault → Type 0
TransactionPlanned plus minus ran t limits (Ok plan) = PlanOf plus minus ran t limits plan
TransactionPlanned plus minus ran t limits (Err f) = Unit {0}

-- a plan of an image within d stages, of p lines and echoes and q atoms
pub record ImagePlanned (plus minus : ℕ → ℕ → ℕ) (ran : List ℕ → ℕ → Packet → ℕ) (image : List ℕ) (d p q : ℕ) (plan : Plan) : Type 0 where
  pub limits : Limits
  pub depth : limits.stages ≡ d
  pub lines : limits.lines ≡ p
  pub atoms : limits.atoms ≡ q
  -- it is of the transaction that the image says
  pub read : image_says image ≡ good (program_of plan.transaction)
  pub planned : PlanOf plus minus ran plan.transaction limits plan

abbrev pub Planned : (plus minus : ℕ → ℕ → ℕ) (ran : List ℕ → ℕ → Packet → ℕ) → List ℕ → ℕ → ℕ → ℕ → Result Plan CompileFault → Type 0
Planned plus minus ran image d p q (Ok plan) = ImagePlanned plus minus ran image d p q plan
Planned plus minus ran image d p q (Err f) = Unit {0}
