-- What the definitions say of the examples. Assumes nothing.
use Rattle.std.specs.Prelude.{◌≡◌, ℕ, Bool, List, [], ◌∷◌, map, Some, None, filter, Result}
use Rattle.std.specs.List.{range_with_len}
use Rattle.word.specs.contracts.arithmetic.WrapArithmetic.TheImpl.{ghosts as wrap}
use Rattle.word.specs.contracts.arithmetic.ClampArithmetic.TheImpl.{ghosts as clamp}
use Rattle.transaction.specs.declared.refusal.Refusal.{Refusal}
use Rattle.transaction.specs.Faults.{refusal}
use Rattle.image.specs.Reading.{Answer, good, bad}
use Rattle.lines.specs.declared.lines.Lines.{Lines}
use Rattle.lines.specs.declared.line.Source.{Source}
use Rattle.codelets.specs.Codelets.{in_codelet}
use Rattle.echoes.specs.Echoes.{echo}
use Rattle.stages.specs.declared.node.Node.TheVariants.{Line as Outside, Echo, Atom}
use Rattle.stages.specs.Filling.{stage_of}
use Rattle.rows.specs.Sorts.{sort_of}
use Rattle.rows.specs.Rows.{row_of}
use Rattle.resolving.specs.declared.codelet.Codelet.{Codelet}
use Rattle.resolving.specs.declared.decided.Decided.{Decided}
use Rattle.choice.specs.Choice.{choice_takes, choice_length}
use Rattle.atoms.specs.Kinds.{read_write_takes, add_takes, subtract_takes}
use Rattle.book.specs.Calls.Call.{Feed, Tick, Take, Peek}
use Rattle.book.specs.Calls.Outcome.{done, packet, word}
use Rattle.compiler.specs.Verdict.{nodes_of, Verdict}
use Rattle.worked_examples.specs.Images.{sampling_image, crossed_image, chained_image, countdown_image, empty_image, LinesOf, answered}
use Rattle.worked_examples.specs.Runs.{PlanShaped, EveryPlan, EveryServedRun, CallsAnswered, TenthsMarked, TenthMarked}

-- the lines that pass the test
abbrev pub lines_that : Lines → (ℕ → Bool) → List ℕ
lines_that r p = filter p (range_with_len 0 r.count)

pub record SamplingRows (r : Lines) : Type 0 where
  pub lines : r.count ≡ 11
  pub codelet : lines_that r (in_codelet r 0) ≡ 0 ∷ 1 ∷ 5 ∷ 8 ∷ 9 ∷ 10 ∷ []
  pub echoes : lines_that r (echo r) ≡ 1 ∷ []
  pub sorts : map (sort_of r) (range_with_len 0 11) ≡ Some Atom ∷ Some Echo ∷ Some Outside ∷ Some Outside ∷ Some Outside ∷ None ∷ Some Outside ∷ Some Outside ∷ None ∷ None ∷ None ∷ []
  -- lines 2, 4 and 6 have row 1, the atom 2, the echo 3, line 3 row 4 and line 7 row 5
  pub rows : map (row_of r) (2 ∷ 4 ∷ 6 ∷ 0 ∷ 1 ∷ 3 ∷ 7 ∷ []) ≡ 1 ∷ 1 ∷ 1 ∷ 2 ∷ 3 ∷ 4 ∷ 5 ∷ []
  -- the stages of these nodes, with room for 10 lines to a stage and with room for 2
  pub wide : map (stage_of (nodes_of r) 10 8) (2 ∷ 4 ∷ 6 ∷ 0 ∷ 1 ∷ 3 ∷ 7 ∷ []) ≡ 1 ∷ 1 ∷ 1 ∷ 2 ∷ 3 ∷ 4 ∷ 5 ∷ []
  pub narrow : map (stage_of (nodes_of r) 2 8) (2 ∷ 4 ∷ 6 ∷ 0 ∷ 1 ∷ 3 ∷ 7 ∷ []) ≡ 1 ∷ 1 ∷ 2 ∷ 3 ∷ 4 ∷ 5 ∷ 6 ∷ []

-- three rows: the first state's atom, the echo of line 2, the second state's atom
pub record ChainedRows (r : Lines) : Type 0 where
  pub lines : r.count ≡ 6
  pub sorts : map (sort_of r) (range_with_len 0 6) ≡ Some Atom ∷ Some Atom ∷ Some Echo ∷ None ∷ None ∷ None ∷ []
  pub rows : map (row_of r) (0 ∷ 2 ∷ 1 ∷ []) ≡ 1 ∷ 2 ∷ 3 ∷ []

-- this is the verdict on an image over an atom
abbrev pub VerdictIs : ℕ → (Codelet → Decided → Source → Bool) → List ℕ → ℕ → ℕ → ℕ → Answer ℕ → Type 0
VerdictIs len takes image d p q told = (a : Answer ℕ) → Verdict len takes image d p q a → a ≡ told

-- what is told of an image is the verdict on it over choice over choice over subtract
abbrev pub ChoicesVerdict : List ℕ → ℕ → ℕ → ℕ → Result ℕ Refusal → Type 0
ChoicesVerdict image d p q r = Verdict (choice_length (choice_length 3)) (choice_takes (choice_takes subtract_takes)) image d p q (answered r)

-- and this over choice over choice over subtract
abbrev pub ChoicesVerdictIs : List ℕ → ℕ → ℕ → ℕ → Answer ℕ → Type 0
ChoicesVerdictIs image d p q told = VerdictIs (choice_length (choice_length 3)) (choice_takes (choice_takes subtract_takes)) image d p q told

pub record WorkedExamples : Type 0 where
  pub sampling_lines_and_rows : (r : Lines) → LinesOf sampling_image r → SamplingRows r
  -- five stages of 10 lines, six of 2, and four of 3 are one too few
  pub sampling_takes_five_stages : ChoicesVerdictIs sampling_image 30 10 8 (good 5)
  pub sampling_takes_six_narrow_stages : ChoicesVerdictIs sampling_image 30 2 8 (good 6)
  pub sampling_does_not_fit_four_stages : ChoicesVerdictIs sampling_image 4 3 8 (bad (refusal 10 5))
  -- an update that is outside the atom's class
  pub sampling_is_not_taken_by_add : VerdictIs 3 add_takes sampling_image 30 10 8 (bad (refusal 9 0))
  pub sampling_is_not_taken_by_choice_over_read_write : VerdictIs (choice_length 3) (choice_takes read_write_takes) sampling_image 30 10 8 (bad (refusal 9 0))
  -- two states in one codelet
  pub crossed_states_are_refused : ChoicesVerdictIs crossed_image 30 10 8 (bad (refusal 8 0))
  pub chained_states_have_three_rows : (r : Lines) → LinesOf chained_image r → ChainedRows r
  pub chained_states_take_three_stages : ChoicesVerdictIs chained_image 30 10 8 (good 3)
  pub countdown_takes_one_stage : VerdictIs 3 subtract_takes countdown_image 30 10 8 (good 1)
  pub nothing_takes_one_stage : ChoicesVerdictIs empty_image 30 10 8 (good 1)
  -- the atom of sampling stands in the second of five stages
  pub sampling_plans_are_so_shaped : (plus minus : ℕ → ℕ → ℕ) → EveryPlan plus minus sampling_image (PlanShaped 5 2 1 (2 ∷ []))
  -- so its word is new after the second tick, and not after the first
  pub sampling_counts_at_its_second_stage : (a b : ℕ) → CallsAnswered wrap.plus wrap.minus sampling_image (Feed (a ∷ b ∷ []) ∷ Tick ∷ Peek 0 ∷ Tick ∷ Peek 0 ∷ []) (good done ∷ good done ∷ good (word 0 0) ∷ good done ∷ good (word 1 1) ∷ [])
  -- packets 1 to 9 leave with 0 in field 0 and the tenth with 1, and so on, whatever was fed
  pub sampling_marks_the_tenth_of_ten_packets : EveryServedRun wrap.plus wrap.minus sampling_image TenthMarked
  pub sampling_marks_every_tenth_packet : EveryServedRun wrap.plus wrap.minus sampling_image TenthsMarked
  -- one below 0
  pub countdown_wraps : (a : ℕ) → CallsAnswered wrap.plus wrap.minus countdown_image (Feed (a ∷ []) ∷ Tick ∷ Peek 0 ∷ []) (good done ∷ good done ∷ good (word 4294967295 1) ∷ [])
  pub countdown_clamps : (a : ℕ) → CallsAnswered clamp.plus clamp.minus countdown_image (Feed (a ∷ []) ∷ Tick ∷ Peek 0 ∷ []) (good done ∷ good done ∷ good (word 0 1) ∷ [])
  -- an empty stage: a packet leaves after one tick, and not before
  pub nothing_has_no_lines : (r : Lines) → LinesOf empty_image r → r.count ≡ 0
  pub nothing_leaves_after_one_tick : (plus minus : ℕ → ℕ → ℕ) (a : ℕ) → CallsAnswered plus minus empty_image (Feed (a ∷ []) ∷ Take 1 ∷ Tick ∷ Take 1 ∷ []) (good done ∷ bad (refusal 15 1) ∷ good done ∷ good (packet (a ∷ [])) ∷ [])
