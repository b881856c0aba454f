use Rattle.worked_examples.proofs.Judging.{sampling_five}
use Rattle.worked_examples.proofs.Told.{told_good}
use Rattle.worked_examples.proofs.compiled.sampling_in_wide_stages.Goals as goal

pub returns-clause-told : goal.returns-clause-told
returns-clause-told c = told_good _ _ (sampling_five _ c.over_choices.ensures)
