-- The search from one start.
use Rattle.std.proofs.Common.{◌≡◌, ℕ, true, false, cond, ltb, get_or, set, replicate, Decides, subst, arith}
use Rattle.std.proofs.lemmas.Bool.Decides.{same_from_decides}
use Rattle.graph.specs.Paths.{Path}
use Rattle.graph.proofs.Rounds.{reached_decides}
use Rattle.graph.proofs.Marking.{from_one}
use Rattle.graph.proofs.search.reach.Goals as goal

pub returns : goal.returns
returns g c =
    let decides : (n : ℕ) → Decides (get_or c.spread.new.marks.on n false) (Path (g.G.Graph.nodes c.args.g.now) (g.G.Graph.joins c.args.g.now) c.args.from n) =
    from_one _ _ _ _ _ (omega (arith, c.size.ensures.same, c.size.ensures.room)) (subst (λ n. c.start.new.marks.on ≡ cond (ltb c.args.from n) (set (replicate 208 false) c.args.from true) (replicate 208 false)) c.size.ensures.same c.start.ensures) c.spread.ensures.paths c.spread.ensures.others in
    record {
      paths = decides;
      computed = λ n. same_from_decides _ _ (decides n) (reached_decides _ _ _ n);
    }
