-- The search is on its way, and each turn leaves fewer nodes to mark.
use Rattle.std.proofs.Common.{◌≡◌, ◌-◌}
use Rattle.graph.specs.Searches.{marked}
use Rattle.graph.proofs.Marking.{Searched}
use Rattle.graph.proofs.search.spread.Given as goal

abbrev pub invariant-loop : goal.invariant-loop
invariant-loop g l = let G = g.G.Graph in
    (l.search.graph.now ≡ l.g) × Searched (G.nodes l.g) (G.joins l.g) l.initial.marks.on l.search.marks.on

abbrev pub decreases-loop : goal.decreases-loop
decreases-loop g l = 208 - marked l.search.marks.on
