use Rattle.std.proofs.Common.{◌≡◌, ◌<◌, List, [], ◌∷◌, ◌++◌, length, take, sym, refl, ap, ◌∙◌, subst, add-one, arith, length-set}
use Rattle.std.proofs.lemmas.List.{take_more_set, take_all}
use Rattle.lines.specs.declared.line.Source.{Source}
use Rattle.resolving.specs.Resolving.{found, resolved_line, table, Resolves, KeepsValues}
use Rattle.resolving.proofs.Keeps.{keeps_values}
use Rattle.resolving.proofs.Only.{alike}
use Rattle.resolving.proofs.Rules.{resolves}
use Rattle.resolving.proofs.codelet.Codelet.resolve.Goals as goal

pub loop-n-init : goal.loop-n-init
unfolding table
loop-n-init c = (refl, refl)

pub loop-n-preserved : goal.loop-n-preserved
unfolding table
loop-n-preserved c =
    let cod = c.args.self.now in
    let d = c.args.decided.now in
    let n = c.loop-n.n in
    let all = c.loop-n.sources in
    let one = c.resolve_line-source.result in
    let below : n < length all = omega arith in
    let made : one ≡ resolved_line cod d (table cod d n) n = c.resolve_line-source.ensures ∙ ap (λ t. resolved_line cod d t n) c.loop-n.invariant.1 in
    let pushed : take n all ++ (one ∷ []) ≡ table cod d n ++ (resolved_line cod d (table cod d n) n ∷ []) =
    ap (λ t. t ++ (one ∷ [])) c.loop-n.invariant.1 ∙ ap (λ x. table cod d n ++ (x ∷ [])) made in
    (length-set all n one ∙ c.loop-n.invariant.0, take_more_set all n one below ∙ pushed ∙ sym (ap (table cod d) (add-one n)))

pub returns : goal.returns
returns c =
    let cod = c.args.self.now in
    let d = c.args.decided.now in
    let n = c.loop-n.n in
    let all = c.loop-n.sources in
    let end : n ≡ 208 = omega arith in
    let is : all ≡ table cod d 208 = sym (take_all n all (omega arith)) ∙ c.loop-n.invariant.1 ∙ ap (table cod d) end in
    let rules : Resolves cod d (found all) = subst (λ (t : List Source). Resolves cod d (found t)) (sym is) (resolves cod d) in
    record {
      table = is;
      rules = rules;
      only = λ f rf a b. alike cod d f (found all) rf rules a b;
      keeps = subst (λ (t : List Source). KeepsValues cod d (found t)) (sym is) (keeps_values cod d);
    }
