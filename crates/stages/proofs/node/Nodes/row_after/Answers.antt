use Rattle.std.proofs.Common.{sym, ◌∙◌, arith, rules, tests}
use Rattle.std.proofs.lemmas.Iterator.{YieldsList-from_range, YieldsList-from_map}
use Rattle.std.proofs.lemmas.Iterator.Adapters.{option_map_id}
use Rattle.std.proofs.lemmas.Iterator.Consumers.{min_from_yields_List, YieldsList-at, YieldsList-from_filter}
use Rattle.stages.specs.Filling.{row_of}
use Rattle.stages.specs.Rows.{comes_after}
use Rattle.stages.proofs.NextRow.{next_kept}
use Rattle.stages.proofs.node.Nodes.row_after.Goals as goal

pub returns : goal.returns
returns c =
    let x = c.args.self.now in
    sym (option_map_id c.min.result)
    ∙ (min_from_yields_List c.map.result _ c.min.ensures.ran (YieldsList-from_map _ (row_of x) (YieldsList-at c.map.ensures.source (YieldsList-from_filter _ (comes_after x c.args.prior) (YieldsList-from_range 0 208 208 c.filter.ensures.source (omega arith)) c.filter.ensures.closure (λ n b q k. search (rules, tests)))) c.map.ensures.closure (λ n r q k. search rules))
    ∙ next_kept x c.args.prior 208)
