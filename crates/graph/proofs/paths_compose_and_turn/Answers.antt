-- The laws of paths.
use Rattle.graph.proofs.Paths.{paths_compose, paths_turn}
use Rattle.graph.proofs.paths_compose_and_turn.Goals as goal

pub returns : goal.returns
returns c = record { compose = paths_compose; turn = paths_turn }
