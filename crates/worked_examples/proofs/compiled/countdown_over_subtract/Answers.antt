use Rattle.worked_examples.proofs.Judging.{countdown_one}
use Rattle.worked_examples.proofs.Told.{told_good}
use Rattle.worked_examples.proofs.compiled.countdown_over_subtract.Goals as goal

pub returns-clause-told : goal.returns-clause-told
returns-clause-told c = told_good _ _ (countdown_one _ c.stages.ensures)
