-- The verdicts on the examples. Assumes nothing.
use Rattle.image.specs.Reading.{good, bad}
use Rattle.transaction.specs.Faults.{refusal}
use Rattle.stages.specs.Filling.{tally, highest, below}
use Rattle.rows.specs.Rows.{row_of}
use Rattle.resolving.specs.Resolving.{table}
use Rattle.resolving.specs.Sameness.{undecided}
use Rattle.plans.specs.Updates.{codelet_of}
use Rattle.choice.specs.Choice.{choice_takes, choice_length}
use Rattle.atoms.specs.Kinds.{read_write_takes, add_takes, subtract_takes}
use Rattle.worked_examples.specs.Images.{sampling_image, crossed_image, chained_image, countdown_image, empty_image}
use Rattle.worked_examples.specs.Worked.{VerdictIs, ChoicesVerdictIs}
use Rattle.worked_examples.proofs.Samples.{sampling_table, sampling_exactly, chained_table, chained_exactly, crossed_table, crossed_exactly, countdown_table, countdown_exactly, nothing_table, nothing_exactly}

pub sampling_five : ChoicesVerdictIs sampling_image 30 10 8 (good 5)
unfolding table undecided codelet_of row_of tally highest below
sampling_five a v = v.every sampling_table sampling_exactly

pub sampling_narrow : ChoicesVerdictIs sampling_image 30 2 8 (good 6)
unfolding table undecided codelet_of row_of tally highest below
sampling_narrow a v = v.every sampling_table sampling_exactly

pub sampling_shallow : ChoicesVerdictIs sampling_image 4 3 8 (bad (refusal 10 5))
unfolding table undecided codelet_of row_of tally highest below
sampling_shallow a v = v.every sampling_table sampling_exactly

pub sampling_over_add : VerdictIs 3 add_takes sampling_image 30 10 8 (bad (refusal 9 0))
unfolding table undecided codelet_of
sampling_over_add a v = v.every sampling_table sampling_exactly

pub sampling_over_read_write : VerdictIs (choice_length 3) (choice_takes read_write_takes) sampling_image 30 10 8 (bad (refusal 9 0))
unfolding table undecided codelet_of
sampling_over_read_write a v = v.every sampling_table sampling_exactly

pub crossed_refused : ChoicesVerdictIs crossed_image 30 10 8 (bad (refusal 8 0))
crossed_refused a v = v.every crossed_table crossed_exactly

pub chained_three : ChoicesVerdictIs chained_image 30 10 8 (good 3)
unfolding table undecided codelet_of row_of tally highest below
chained_three a v = v.every chained_table chained_exactly

pub countdown_one : VerdictIs 3 subtract_takes countdown_image 30 10 8 (good 1)
unfolding table undecided codelet_of row_of tally highest below
countdown_one a v = v.every countdown_table countdown_exactly

pub empty_one : ChoicesVerdictIs empty_image 30 10 8 (good 1)
unfolding row_of tally highest below
empty_one a v = v.every nothing_table nothing_exactly
