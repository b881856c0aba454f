use Rattle.std.proofs.Common.{refl, rules}
use Rattle.codelets.proofs.Owners.{coded}
use Rattle.placement.proofs.Placing.{earlier}
use Rattle.placement.proofs.place.place_codelets.Goals as goal

pub returns : goal.returns
returns c =
    let k = c.args.codelets.now in
    let f = c.in_ok-stages.ensures in
    let placed = c.nodes_of.ensures.placed in (
      refl,
      record {
        lines = refl;
        owners = coded k.lines k.owner k.owned k.alone;
        rows = placed;
        each = f.each;
        count = f.count;
        within = f.within;
        filled = f.well;
        earlier = earlier k.lines c.nodes_of.result.table.sorts c.nodes_of.result.table.rows placed _ _ _ f.well;
      },
    )

pub returns-in_err-stages : goal.returns-in_err-stages
returns-in_err-stages c =
    let k = c.args.codelets.now in
    let apart = (coded k.lines k.owner k.owned k.alone).alone in
    search rules
