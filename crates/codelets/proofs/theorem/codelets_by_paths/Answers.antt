-- Codelets by paths.
use Rattle.codelets.proofs.Paths.{codelets_by_paths, crowded_by_paths}
use Rattle.codelets.proofs.Joining.{states_joined}
use Rattle.codelets.proofs.theorem.codelets_by_paths.Goals as goal

pub returns : goal.returns
returns c = record { codelets = codelets_by_paths; shared = crowded_by_paths; states = states_joined }
