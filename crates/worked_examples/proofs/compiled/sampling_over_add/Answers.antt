use Rattle.worked_examples.proofs.Judging.{sampling_over_add}
use Rattle.worked_examples.proofs.Told.{told_bad}
use Rattle.worked_examples.proofs.compiled.sampling_over_add.Goals as goal

pub returns-clause-told : goal.returns-clause-told
returns-clause-told c = told_bad _ _ (sampling_over_add _ c.stages.ensures)
