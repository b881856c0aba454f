-- What makes a plan sound. Assumes nothing.
use Rattle.std.specs.Prelude.{◌≡◌, ℕ, true, List}
use Rattle.transaction.specs.Programs.{statements_of, program_of}
use Rattle.lines.specs.Exact.{Exactly, NamedThere, InOrder}
use Rattle.lines.specs.Unique.{IsBlankPast}
use Rattle.lines.specs.Meaning.{KeepsMeaning, EachMakes, MakesWords}
use Rattle.codelets.specs.Codelets.{is_named}
use Rattle.stages.specs.declared.limits.Limits.{Limits}
use Rattle.placement.specs.Placement.{WellPlaced}
use Rattle.resolving.specs.declared.packet.Packet.{Packet}
use Rattle.resolving.specs.Sameness.{undecided}
use Rattle.updates.specs.Inner.{update_of}
use Rattle.atoms.specs.Rightness.{Right as RightSetting}
use Rattle.book.specs.Run.{one_alone}
use Rattle.book.specs.Right.{Right}
use Rattle.book.specs.Theorem.{WordsToWords}
use Rattle.plans.specs.declared.plan.Plan.{Plan}
use Rattle.plans.specs.Updates.{codelet_of}
use Rattle.plans.specs.Pipeline.{lines_in, setting_of, pipeline_of}

-- a plan of its transaction within the limits
pub record Sound (plus minus : ℕ → ℕ → ℕ) (ran : List ℕ → ℕ → Packet → ℕ) (limits : Limits) (plan : Plan) : Type 0 where
  -- its lines are the transaction's, by the rules of lines, and mean what the statements mean
  pub lines : Exactly (statements_of plan.transaction) (lines_in plan)
  pub there : NamedThere plan.transaction (lines_in plan)
  pub order : InOrder (lines_in plan)
  pub meaning : KeepsMeaning plan.transaction (lines_in plan)
  pub makes : EachMakes (lines_in plan)
  pub words : MakesWords (lines_in plan)
  pub blank : IsBlankPast (lines_in plan)
  -- its nodes stand in the stages that the definitions give, and what a node reads is made in an earlier stage
  pub placed : WellPlaced (lines_in plan) limits plan.placement
  -- each named state's setting is right for its update
  pub settings : (s : ℕ) → is_named (lines_in plan) s ≡ true → RightSetting plus minus ran (codelet_of (lines_in plan) s) undecided (update_of (lines_in plan) s) (setting_of plan s)

-- the pipeline of a sound plan is right for the serial run of its transaction
abbrev pub SoundPlansRight : Type 0
SoundPlansRight =
    (plus minus : ℕ → ℕ → ℕ) (ran : List ℕ → ℕ → Packet → ℕ) (limits : Limits) (plan : Plan) → WordsToWords plus → WordsToWords minus → Sound plus minus ran limits plan → Right (pipeline_of plus minus ran plan) (one_alone plus minus (program_of plan.transaction))
