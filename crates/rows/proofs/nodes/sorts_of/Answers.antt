-- One number more; past the table nothing stands.
use Rattle.std.proofs.Common.{◌≡◌, ℕ, set, get_or, None, sym, ◌∙◌, ⊎_elim, arith, rules, below_more, get_or-set_other, get_or-set_same}
use Rattle.std.proofs.lemmas.Bool.{cases_lt}
use Rattle.std.proofs.lemmas.List.{get_or_past}
use Rattle.rows.specs.Sorts.{sort_of}
use Rattle.rows.proofs.Sorting.{sort_past}
use Rattle.rows.proofs.nodes.sorts_of.Goals as goal

pub loop-n-preserved : goal.loop-n-preserved
loop-n-preserved c = (
  search rules,
  below_more (λ (k : ℕ). get_or (set c.loop-n.sort-items c.loop-n.n c.sort_of.result) k None ≡ sort_of c.args.c.now.lines k) c.loop-n.n
      (λ k lt. get_or-set_other c.loop-n.sort-items c.loop-n.n k c.sort_of.result None (omega arith) ∙ c.loop-n.invariant.1 k lt)
      (get_or-set_same c.loop-n.sort-items c.loop-n.n c.sort_of.result None (omega (arith, c.loop-n.invariant.0)) ∙ c.sort_of.ensures (c.echoes_of-echoes.ensures.computed c.loop-n.n)),
)

pub returns : goal.returns
returns c n =
    ⊎_elim (λ lt. c.loop-n.invariant.1 n (omega (arith, c.loop-n.invariant.0))) (λ ge. get_or_past c.loop-n.sort-items n None (omega (arith, c.loop-n.invariant.0)) ∙ sym (sort_past c.args.c.now.lines n (omega (arith, c.args.c.now.lines.few)))) (cases_lt n 208)
