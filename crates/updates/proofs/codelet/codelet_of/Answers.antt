use Rattle.std.proofs.Common.{◌≡◌, Bool, true, List, sym, subst}
use Rattle.std.proofs.lemmas.Bool.{and_parts}
use Rattle.resolving.specs.Reads.{lower_from}
use Rattle.updates.specs.Inner.{is_inner}
use Rattle.updates.proofs.Inner.{inner_lower}
use Rattle.updates.proofs.codelet.codelet_of.Goals as goal

pub invariant_of-result : goal.invariant_of-result
invariant_of-result c =
    let r = c.args.codelets.now.lines in
    record { lower = subst (λ (inner : List Bool). lower_from 0 r.lines inner ≡ true) (sym c.inner_lines-inner.ensures) (inner_lower r c.args.s (is_inner r c.args.s) (λ n e. (and_parts _ _ e).0)) }
