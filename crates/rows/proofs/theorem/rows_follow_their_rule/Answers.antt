-- Rows.
use Rattle.rows.proofs.Sorting.{rows_stand}
use Rattle.rows.proofs.theorem.rows_follow_their_rule.Goals as goal

pub returns : goal.returns
returns c = rows_stand
