-- The edges to the nodes passed so far are followed.
use Rattle.graph.proofs.Marking.{Following}
use Rattle.graph.proofs.search.follow.Given as goal

abbrev pub invariant-loop-b : goal.invariant-loop-b
invariant-loop-b g l = let G = g.G.Graph in Following (G.nodes l.g) (G.joins l.g) l.initial.marks.on l.marks.on l.a l.b l.added
