-- Up, and then down.
use Rattle.std.proofs.Common.{refl, ◌∙◌, arith}
use Rattle.std.proofs.lemmas.Bool.{both_ways}
use Rattle.graph.proofs.Marking.{sweep_none, sweep_more, grown_none, grown_then, grown_first, grown_second, sweep_all}
use Rattle.graph.proofs.search.Search.round.Goals as goal

pub loop-a-init : goal.loop-a-init
loop-a-init g c = (refl, sweep_none _ _ _ _)

pub loop-a-preserved : goal.loop-a-preserved
loop-a-preserved g c =
    let grown = rw c.loop-a.invariant.0 at c.expand-up.ensures.grown in
    (c.expand-up.ensures.graph ∙ c.loop-a.invariant.0, sweep_more _ _ _ _ _ _ _ _ _ _ c.loop-a.invariant.1 grown c.expand-up.ensures.keeps c.expand-up.ensures.here)

pub loop-a-2-init : goal.loop-a-2-init
loop-a-2-init g c = (refl, grown_none _ _ _, λ k o. o)

pub loop-a-2-preserved : goal.loop-a-2-preserved
loop-a-2-preserved g c =
    let grown = rw c.loop-a-2.invariant.0 at c.expand-down.ensures.grown in
    (c.expand-down.ensures.graph ∙ c.loop-a-2.invariant.0, grown_then _ _ _ _ _ _ _ c.loop-a-2.invariant.1 grown, λ k o. c.expand-down.ensures.keeps k (c.loop-a-2.invariant.2 k o))

pub returns-then-up : goal.returns-then-up
returns-then-up g c =
    let down = rw c.loop-a.invariant.0 at c.loop-a-2.invariant.1 in
    record {
      graph = c.loop-a-2.invariant.0 ∙ c.loop-a.invariant.0;
      grown = grown_first _ _ _ _ _ _ c.if-up.true (grown_then _ _ _ _ _ _ _ c.loop-a.invariant.1.grown down);
      closed = λ f. absurd (both_ways _ f c.if-up.true);
    }

pub returns-else-up : goal.returns-else-up
returns-else-up g c =
    let graph = c.loop-a-2.invariant.0 ∙ c.loop-a.invariant.0 in
    let down = rw c.loop-a.invariant.0 at c.loop-a-2.invariant.1 in
    record {
      graph = graph;
      grown = grown_second _ _ _ _ _ _ c.if-up.false (grown_then _ _ _ _ _ _ _ c.loop-a.invariant.1.grown down);
      closed = sweep_all _ _ _ _ _ _ _ (λ k h. c.loop-a.invariant.1.below c.if-up.false k (omega (arith, c.size-size.ensures.same))) down (rw graph at c.loop-a-2.self.followed) c.loop-a-2.invariant.2;
    }
