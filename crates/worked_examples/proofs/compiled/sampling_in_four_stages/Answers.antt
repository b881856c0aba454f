use Rattle.worked_examples.proofs.Judging.{sampling_shallow}
use Rattle.worked_examples.proofs.Told.{told_bad}
use Rattle.worked_examples.proofs.compiled.sampling_in_four_stages.Goals as goal

pub returns-clause-told : goal.returns-clause-told
returns-clause-told c = told_bad _ _ (sampling_shallow _ c.over_choices.ensures)
