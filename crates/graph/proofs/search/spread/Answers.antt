-- The search starts with the marks it got; at the end no edge leaves its marks.
use Rattle.std.proofs.Common.{refl, ◌∙◌}
use Rattle.graph.proofs.Marking.{searched_none, searched_more, searched_all, searched_others, left_less, done_none}
use Rattle.graph.proofs.search.spread.Goals as goal

pub invariant_of-search : goal.invariant_of-search
invariant_of-search g c = record { followed = done_none _ _ _ _ c.args.marks.now.long c.new.ensures }

pub loop-init : goal.loop-init
loop-init g c = (refl, searched_none _ _ _)

pub loop-preserved : goal.loop-preserved
loop-preserved g c =
    (c.round.ensures.graph ∙ c.loop.invariant.0, searched_more _ _ _ _ _ _ c.loop.invariant.1 (rw c.loop.invariant.0 at c.round.ensures.grown))

pub loop-smaller : goal.loop-smaller
loop-smaller g c = left_less _ _ _ _ _ c.loop-test.true c.round.ensures.grown c.round.new.self.marks.long

pub returns : goal.returns
returns g c =
    let s = searched_more _ _ _ _ _ _ c.loop.invariant.1 (rw c.loop.invariant.0 at c.round.ensures.grown) in
    record {
      paths = searched_all _ _ _ _ s (rw c.loop.invariant.0 at (c.round.ensures.closed c.loop-test.false));
      others = searched_others _ _ _ _ s;
    }
