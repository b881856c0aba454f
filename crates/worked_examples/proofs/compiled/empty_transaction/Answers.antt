use Rattle.worked_examples.proofs.Judging.{empty_one}
use Rattle.worked_examples.proofs.Told.{told_good}
use Rattle.worked_examples.proofs.compiled.empty_transaction.Goals as goal

pub returns-clause-told : goal.returns-clause-told
returns-clause-told c = told_good _ _ (empty_one _ c.over_choices.ensures)
