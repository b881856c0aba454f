use Rattle.worked_examples.proofs.Judging.{crossed_refused}
use Rattle.worked_examples.proofs.Told.{told_bad}
use Rattle.worked_examples.proofs.compiled.crossed_states.Goals as goal

pub returns-clause-told : goal.returns-clause-told
returns-clause-told c = told_bad _ _ (crossed_refused _ c.over_choices.ensures)
