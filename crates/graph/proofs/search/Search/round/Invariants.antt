-- Up: the marked nodes passed so far are done, unless a mark was added. Down: the marks grow, and what is done stays done.
use Rattle.std.proofs.Common.{◌≡◌, ℕ}
use Rattle.graph.specs.Paths.{On}
use Rattle.graph.specs.Searches.{Grown}
use Rattle.graph.proofs.Marking.{Sweeping}
use Rattle.graph.proofs.search.Search.round.Given as goal

abbrev pub invariant-loop-a : goal.invariant-loop-a
invariant-loop-a g l = let G = g.G.Graph in
    (l.self.graph.now ≡ l.initial.self.graph.now)
    × Sweeping (G.nodes l.initial.self.graph.now) (G.joins l.initial.self.graph.now) l.initial.self.marks.on l.self.marks.on l.self.done.on l.up l.a

abbrev pub invariant-loop-a-2 : goal.invariant-loop-a-2
invariant-loop-a-2 g l = let G = g.G.Graph in
    (l.self.graph.now ≡ l.initial.self.graph.now)
    × Grown (G.nodes l.initial.self.graph.now) (G.joins l.initial.self.graph.now) l.initial.self.marks.on l.self.marks.on l.down
    × ((k : ℕ) → On l.initial.self.done.on k → On l.self.done.on k)
