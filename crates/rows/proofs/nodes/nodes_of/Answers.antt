-- The tables are the definition's.
use Rattle.std.proofs.Common.{refl}
use Rattle.rows.proofs.Sorting.{placed}
use Rattle.rows.proofs.nodes.nodes_of.Goals as goal

pub returns : goal.returns
returns c = record { same = refl; placed = placed _ _ _ c.sorts_of-sorts.ensures c.rows_of-rows.ensures }
