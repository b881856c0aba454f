use Rattle.worked_examples.proofs.Judging.{chained_three}
use Rattle.worked_examples.proofs.Told.{told_good}
use Rattle.worked_examples.proofs.compiled.chained_states.Goals as goal

pub returns-clause-told : goal.returns-clause-told
returns-clause-told c = told_good _ _ (chained_three _ c.over_choices.ensures)
