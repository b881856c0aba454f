-- Nodes and makers.
use Rattle.rows.proofs.Sorting.{sorts_stand, makers_stand}
use Rattle.rows.proofs.theorem.nodes_and_makers.Goals as goal

pub returns : goal.returns
returns c = record { nodes = sorts_stand; makers = makers_stand }
