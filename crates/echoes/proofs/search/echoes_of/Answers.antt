-- The search finds the least set.
use Rattle.std.proofs.Common.{◌≡◌, ℕ, ◌<◌, false, get_or, Decides, rules, tests}
use Rattle.std.proofs.lemmas.Bool.Decides.{same_from_decides}
use Rattle.codelets.specs.Inner.{inner}
use Rattle.echoes.specs.Echoes.{Echo, seed}
use Rattle.word.proofs.Made.{made_at}
use Rattle.echoes.proofs.Least.{echo_decides, found_echoes, inner_at, seed_at}
use Rattle.echoes.proofs.search.echoes_of.Goals as goal

pub returns : goal.returns
returns c =
    let r = c.args.c.now.lines in
    let inside : (n : ℕ) → n < 208 → get_or c.from_fn.result n false ≡ inner r n =
    made_at _ _ (inner r) 208 (λ i y q h k. search (rules, tests)) c.from_fn.result false c.from_fn.ensures.items in
    let starts : (n : ℕ) → n < 208 → get_or c.from_fn-2.result n false ≡ seed r n =
    made_at _ _ (seed r) 208 (λ i y q h k. search (rules, tests)) c.from_fn-2.result false c.from_fn-2.ensures.items in
    let found : (n : ℕ) → Decides (get_or c.trace.new.marks.on n false) (Echo r n) =
    found_echoes r c.from_fn.result c.from_fn-2.result (inner_at r _ c.from_fn.ensures.items.long inside) (seed_at r _ c.from_fn-2.ensures.items.long starts) c.trace.new.marks.on c.trace.ensures.paths c.trace.ensures.others in
    record {
      computed = λ n. same_from_decides _ _ (found n) (echo_decides r n);
      least = found;
    }
