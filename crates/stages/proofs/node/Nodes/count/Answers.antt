use Rattle.std.proofs.Common.{ℕ, Bool, ◌∙◌, arith, rules, tests}
use Rattle.std.proofs.lemmas.Iterator.{YieldsList-from_range}
use Rattle.std.proofs.lemmas.Iterator.Consumers.{count_from_yields_List, YieldsList-from_filter}
use Rattle.stages.specs.Filling.{precedes}
use Rattle.stages.proofs.Counts.{tally_kept, tally_most}
use Rattle.stages.proofs.node.Nodes.count.Goals as goal

pub returns : goal.returns
returns c =
    let p : ℕ → Bool = precedes c.args.self.now c.args.slot c.args.row c.args.n in
    let exact = count_from_yields_List c.filter.result _ c.count.ensures.ran (YieldsList-from_filter _ p (YieldsList-from_range 0 208 208 c.filter.ensures.source (omega arith)) c.filter.ensures.closure (λ x b q k. search (rules, tests))) ∙ tally_kept 208 p in
    record { exact = exact; few = omega (arith, exact, tally_most 208 p) }
