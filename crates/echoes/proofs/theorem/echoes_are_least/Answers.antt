-- The least set.
use Rattle.echoes.proofs.Least.{echoes_least}
use Rattle.echoes.proofs.theorem.echoes_are_least.Goals as goal

pub returns : goal.returns
returns c = echoes_least
