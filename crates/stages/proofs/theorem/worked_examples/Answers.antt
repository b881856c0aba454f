use Rattle.std.proofs.Common.{refl}
use Rattle.stages.specs.Filling.{tally, highest, below}
use Rattle.stages.proofs.theorem.worked_examples.Goals as goal

pub returns : goal.returns
unfolding tally highest below
returns c = record { wide = refl; five = refl; narrow = refl; six = refl; deep = refl; order = refl }
