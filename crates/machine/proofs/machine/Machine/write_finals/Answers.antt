use Rattle.std.proofs.Common.{◌≡◌, ℕ, ◌<◌, ◌≤◌, List, map, length, get_or, take, sym, ap, ◌∙◌, arith}
use Rattle.std.proofs.lemmas.List.{ext_get_or, get_or-map, get_or-take, length-map, length-take-le}
use Rattle.lines.specs.Work.{value_of}
use Rattle.lines.specs.declared.line.Source.{Source}
use Rattle.lines.specs.declared.line.Source.TheVariants.{Constant}
use Rattle.plans.specs.Pipeline.{lines_in}
use Rattle.machine.proofs.machine.Machine.write_finals.Goals as goal

-- each of the first w values at its place
written : (f : Source → ℕ) (sources : List Source) (out : List ℕ) (w : ℕ) → w ≤ length sources → length out ≡ w → ((k : ℕ) → k < w → get_or out k 0 ≡ f (get_or sources k (Constant 0))) → out ≡ map f (take w sources)
written f sources out w few long each =
    let size : length (take w sources) ≡ w = length-take-le w sources few in
    ext_get_or 0 out (map f (take w sources)) (long ∙ sym (length-map (take w sources) f ∙ size))
    (λ k h. each k (omega arith) ∙ ap f (sym (get_or-take w sources k (Constant 0) (omega arith))) ∙ sym (get_or-map f (take w sources) k (Constant 0) 0 (omega arith)))

pub returns : goal.returns
returns g c e =
    let l = lines_in c.args.self.now.plan in
    written (value_of c.args.row.now.fields c.args.row.now.lines) l.finals c.loop-i.out c.args.self.now.plan.transaction.fields (omega (arith, l.finals_long, c.args.self.now.plan.transaction.few_fields)) (c.loop-i.auto.out ∙ e) (λ k h. c.loop-i.invariant k (omega (arith, c.loop-i-test.false)))
