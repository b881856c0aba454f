-- The runs of the examples. Assumes nothing.
use Rattle.std.proofs.Common.{ℕ, List, [], ◌∷◌, map, refl, ap}
use Rattle.word.specs.contracts.arithmetic.WrapArithmetic.TheImpl.{ghosts as wrap}
use Rattle.word.specs.contracts.arithmetic.ClampArithmetic.TheImpl.{ghosts as clamp}
use Rattle.std.specs.List.{range_with_len}
use Rattle.transaction.specs.Faults.{refusal}
use Rattle.transaction.specs.WellFormed.{Program}
use Rattle.image.specs.Reading.{good, bad}
use Rattle.lines.specs.Examples.{sampling}
use Rattle.stages.specs.Filling.{tally, highest, below}
use Rattle.rows.specs.Rows.{row_of}
use Rattle.book.specs.Book.{Shape}
use Rattle.book.specs.Calls.Call.{Feed, Tick, Take, Peek}
use Rattle.book.specs.Calls.Outcome.{done, packet, word}
use Rattle.worked_examples.specs.Images.{sampling_image, countdown_image, empty_image}
use Rattle.worked_examples.specs.Runs.{PlanShaped, EveryPlan, CallsAnswered}
use Rattle.worked_examples.proofs.Samples.{sampling_table, sampling_exactly, countdown, countdown_table, countdown_exactly, nothing_table, nothing_exactly}
use Rattle.worked_examples.proofs.Shapes.{shape_same, answers_same}

abbrev pub sampling_program : Program
sampling_program = record { fields = 2; states = 1; statements = sampling }

abbrev countdown_program : Program
countdown_program = record { fields = 1; states = 1; statements = countdown }

abbrev empty_program : Program
empty_program = record { fields = 1; states = 0; statements = [] }

pub sampling_shaped : (plus minus : ℕ → ℕ → ℕ) → EveryPlan plus minus sampling_image (PlanShaped 5 2 1 (2 ∷ []))
unfolding row_of tally highest below
sampling_shaped plus minus ran plan x =
    let same = shape_same plus minus ran sampling_image sampling_program sampling_table refl sampling_exactly 30 10 8 plan x in
    record {
      depth = ap {B = ℕ} (λ (s : Shape). s.depth) same;
      width = ap {B = ℕ} (λ (s : Shape). s.width) same;
      states = ap {B = ℕ} (λ (s : Shape). s.states) same;
      atoms = ap {B = List ℕ} (λ (s : Shape). map s.stage (range_with_len 0 1)) same;
    }

pub sampling_peeked : (a b : ℕ) → CallsAnswered wrap.plus wrap.minus sampling_image (Feed (a ∷ b ∷ []) ∷ Tick ∷ Peek 0 ∷ Tick ∷ Peek 0 ∷ []) (good done ∷ good done ∷ good (word 0 0) ∷ good done ∷ good (word 1 1) ∷ [])
unfolding row_of tally highest below
sampling_peeked a b ran plan x =
    answers_same wrap.plus wrap.minus ran sampling_image sampling_program sampling_table refl sampling_exactly 30 10 8 plan x _

pub countdown_wrapped : (a : ℕ) → CallsAnswered wrap.plus wrap.minus countdown_image (Feed (a ∷ []) ∷ Tick ∷ Peek 0 ∷ []) (good done ∷ good done ∷ good (word 4294967295 1) ∷ [])
unfolding row_of tally highest below
countdown_wrapped a ran plan x =
    answers_same wrap.plus wrap.minus ran countdown_image countdown_program countdown_table refl countdown_exactly 30 10 8 plan x _

pub countdown_clamped : (a : ℕ) → CallsAnswered clamp.plus clamp.minus countdown_image (Feed (a ∷ []) ∷ Tick ∷ Peek 0 ∷ []) (good done ∷ good done ∷ good (word 0 1) ∷ [])
unfolding row_of tally highest below
countdown_clamped a ran plan x =
    answers_same clamp.plus clamp.minus ran countdown_image countdown_program countdown_table refl countdown_exactly 30 10 8 plan x _

pub nothing_taken : (plus minus : ℕ → ℕ → ℕ) (a : ℕ) → CallsAnswered plus minus empty_image (Feed (a ∷ []) ∷ Take 1 ∷ Tick ∷ Take 1 ∷ []) (good done ∷ bad (refusal 15 1) ∷ good done ∷ good (packet (a ∷ [])) ∷ [])
unfolding row_of tally highest below
nothing_taken plus minus a ran plan x =
    answers_same plus minus ran empty_image empty_program nothing_table refl nothing_exactly 30 10 8 plan x _
