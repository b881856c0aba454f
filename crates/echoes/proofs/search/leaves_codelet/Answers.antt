-- A line's codelet is its owner's.
use Rattle.std.proofs.Common.{◌≡◌, false, MatchOption, rules}
use Rattle.graph.specs.Rounds.{some_below}
use Rattle.echoes.specs.Echoes.{read_outside}
use Rattle.echoes.proofs.Least.{leaves_is}
use Rattle.echoes.proofs.search.leaves_codelet.Goals as goal

pub returns : goal.returns
returns c =
    let by_owner : MatchOption c.at.result (c.is_some_and.result ≡ false) (λ s. c.is_some_and.result ≡ some_below c.args.c.now.lines.count (read_outside c.args.c.now.lines s c.args.n)) = search rules in
    leaves_is c.args.c.now.lines c.args.c.now.owner c.args.c.now.owned c.args.n _ _ c.at.ensures by_owner
