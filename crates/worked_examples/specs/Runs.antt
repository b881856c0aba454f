-- What a machine that carries out a plan of an image answers. Assumes nothing.
use Rattle.std.specs.Prelude.{◌≡◌, ℕ, ◌%◌, ◌<◌, List, [], ◌∷◌, map, length, slice_index, slice_index_or}
use Rattle.std.specs.List.{range_with_len}
use Rattle.word.specs.Words.{equal_to}
use Rattle.transaction.specs.Programs.{program_of}
use Rattle.image.specs.Reading.{Answer}
use Rattle.resolving.specs.declared.packet.Packet.{Packet}
use Rattle.book.specs.Run.{one_alone}
use Rattle.book.specs.Calls.{Call, Outcome}
use Rattle.book.specs.Pipeline.{Contents}
use Rattle.book.specs.Laws.{exchanges, taken_in, Served}
use Rattle.plans.specs.declared.plan.Plan.{Plan}
use Rattle.plans.specs.Pipeline.{shape_of}
use Rattle.compiler.specs.Planned.{ImagePlanned}

-- so many stages, fields and states, and the stages of the states' atoms
pub record PlanShaped (D F S : ℕ) (stages : List ℕ) (plan : Plan) : Type 0 where
  pub depth : (shape_of plan).depth ≡ D
  pub width : (shape_of plan).width ≡ F
  pub states : (shape_of plan).states ≡ S
  pub atoms : map (shape_of plan).stage (range_with_len 0 S) ≡ stages

module _ (plus minus : ℕ → ℕ → ℕ) (image : List ℕ) where
  -- of every plan of the image, whatever the atom, within 30 stages with room for 10 lines and echoes and 8 atoms
  abbrev pub EveryPlan : (Plan → Type 0) → Type 0
  EveryPlan holds = (ran : List ℕ → ℕ → Packet → ℕ) (plan : Plan) → ImagePlanned plus minus ran image 30 10 8 plan → holds plan

  -- of every run of such a plan that is served as the book says: its calls and their answers
  abbrev pub EveryServedRun : (List Call → List (Answer Outcome) → Type 0) → Type 0
  EveryServedRun holds =
      EveryPlan (λ plan. (cs : List Call) (rs : List (Answer Outcome)) (m : Contents Packet) → Served (shape_of plan) (one_alone plus minus (program_of plan.transaction)) cs rs m → holds cs rs)

  -- these calls are answered so
  abbrev pub CallsAnswered : List Call → List (Answer Outcome) → Type 0
  CallsAnswered cs told =
      EveryPlan (λ plan. (rs : List (Answer Outcome)) (m : Contents Packet) → Served (shape_of plan) (one_alone plus minus (program_of plan.transaction)) cs rs m → rs ≡ told)

-- every tenth packet taken has 1 in field 0, and all others have 0; the first is number 0
abbrev pub TenthsMarked : List Call → List (Answer Outcome) → Type 0
TenthsMarked cs rs = (n : ℕ) → n < length (taken_in (exchanges cs rs)) → slice_index (slice_index_or (taken_in (exchanges cs rs)) n []) 0 ≡ equal_to (n % 10) 9

-- the fields 0 of ten packets taken
abbrev pub TenthMarked : List Call → List (Answer Outcome) → Type 0
TenthMarked cs rs =
    length (taken_in (exchanges cs rs)) ≡ 10 → map (λ (fs : List ℕ). slice_index fs 0) (taken_in (exchanges cs rs)) ≡ 0 ∷ 0 ∷ 0 ∷ 0 ∷ 0 ∷ 0 ∷ 0 ∷ 0 ∷ 0 ∷ 1 ∷ []
