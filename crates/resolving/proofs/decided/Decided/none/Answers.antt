use Rattle.std.proofs.Common.{refl}
use Rattle.resolving.specs.Sameness.{undecided}
use Rattle.resolving.proofs.Undecided.{undecided_holds}
use Rattle.resolving.proofs.decided.Decided.none.Goals as goal

pub returns : goal.returns
unfolding undecided
returns c = record { nothing = refl; holds = undecided_holds }
