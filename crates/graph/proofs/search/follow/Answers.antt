-- One node more is visited.
use Rattle.std.proofs.Common.{arith}
use Rattle.graph.proofs.Marking.{following_none, following_more}
use Rattle.graph.proofs.search.follow.Goals as goal

pub loop-b-init : goal.loop-b-init
loop-b-init g c = following_none _ _ _ _

pub loop-b-preserved : goal.loop-b-preserved
loop-b-preserved g c =
    following_more _ _ _ _ _ _ _ _ _ c.loop-b.invariant c.visit-added.ensures.told c.visit-added.ensures.marks c.requires.node (omega (arith, c.size-b-end.ensures.same)) (omega (arith, c.loop-b.marks.long, c.size-b-end.ensures.room)) c.requires.on

pub returns : goal.returns
returns g c = record { grown = c.loop-b.invariant.grown; follows = λ k h e. c.loop-b.invariant.below k (omega (arith, c.size-b-end.ensures.same)) e }
