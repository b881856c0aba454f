-- Inside the codelet 0, and past the table too.
use Rattle.std.proofs.Common.{◌≡◌, ◌<◌, ◌≤◌, get_or, sym, ◌∙◌, ⊎_elim, arith, rules, tests}
use Rattle.std.proofs.lemmas.Bool.{cases_lt, cases_Bool, cond-true, cond-false}
use Rattle.std.proofs.lemmas.List.{get_or_past}
use Rattle.codelets.specs.Codelets.{in_codelet}
use Rattle.rows.specs.Passes.{row_at, outside_of}
use Rattle.word.proofs.Made.{made_at}
use Rattle.rows.proofs.ranking.outside.Goals as goal

pub returns : goal.returns
returns c n = ⊎_elim within past (cases_lt n 208)
  where
    within : n < 208 → get_or c.from_fn.result n 0 ≡ outside_of c.args.c.now.lines c.args.s (row_at c.args.rows.now) n
    within lt = made_at _ _ (outside_of c.args.c.now.lines c.args.s (row_at c.args.rows.now)) 208 (λ i y q h k. let c : Unit {0} = tt in search (rules, tests)) c.from_fn.result 0 c.from_fn.ensures.items n lt

    past : 208 ≤ n → get_or c.from_fn.result n 0 ≡ outside_of c.args.c.now.lines c.args.s (row_at c.args.rows.now) n
    past h =
        let none : get_or c.args.rows.now n 0 ≡ 0 = get_or_past c.args.rows.now n 0 (omega (arith, c.told-rows)) in
        get_or_past c.from_fn.result n 0 (omega (arith, c.from_fn.ensures.items.long)) ∙ sym (⊎_elim (λ t. cond-true (in_codelet c.args.c.now.lines c.args.s n) 0 (row_at c.args.rows.now n) t) (λ f. cond-false (in_codelet c.args.c.now.lines c.args.s n) 0 (row_at c.args.rows.now n) f ∙ none) (cases_Bool (in_codelet c.args.c.now.lines c.args.s n)))
