use Rattle.std.proofs.Common.{◌≡◌, ℕ, ◌+◌, ◌-◌, ◌*◌, true, List, length, take, drop, Some, sym, ap, ◌∙◌, subst}
use borrow.Rule.Slice.PartMut.{put_mid}
use Rattle.std.proofs.lemmas.Bool.{true≢false, and_parts}
use Rattle.resolving.specs.declared.fork.Fork.{Fork}
use Rattle.choice.specs.Choice.{choice_length, taken_fork}
use Rattle.atoms.specs.Rightness.{Right}
use Rattle.settings.specs.Settings.{has_room}
use Rattle.choice.proofs.Arms.{taken_is, at_update}
use Rattle.choice.proofs.Layer.{Fitted, head_fits, below_wrote, fork_wrote}
use Rattle.choice.proofs.choosing.ChoiceAtom.fit.Goals as goal

pub returns-then-class : goal.returns-then-class
returns-then-class g c =
    let n : ℕ = g.A.Atom.len in
    let takes = g.A.Atom.takes in
    let ran = g.A.Atom.ran in
    let plus = g.A.Arith.Arithmetic.plus in
    let minus = g.A.Arith.Arithmetic.minus in
    let cod = c.args.update.now.codelet.now in
    let d = c.args.update.now.decided in
    let u = c.args.update.now.source in
    let buffer : List ℕ = c.args.buffer.now in
    let xs : List ℕ = c.write_predicate.new.buffer in
    let ys : List ℕ = c.fit.new.buffer in
    let has : has_room (choice_length n) buffer ≡ true = ap (λ m. has_room m buffer) (sym c.length.ensures) ∙ sym c.has_room.ensures ∙ c.if-not-has_room.false in
    let taken : takes cod d u ≡ true = sym c.if-class.ensures in
    let head = head_fits plus minus n takes ran cod d u buffer has in
    let wrote : Fitted plus minus n takes ran cod d u buffer has (put_mid 5 ((5 + n) - 5) xs ys) =
    below_wrote plus minus n takes ran cod d u buffer has xs c.write_predicate.auto.buffer c.write_predicate.ensures.rest ys
    (c.fit.auto.buffer ∙ ap (λ k. length (take ((5 + k) - 5) (drop 5 xs))) c.length-n.ensures)
    (c.write_predicate.ensures.written head) taken
    (λ h. c.fit.ensures.right (c.fit.ensures.answer ∙ taken) (ap (λ k. has_room n (take ((5 + k) - 5) (drop 5 xs))) c.length-n.ensures ∙ h)) in
    let fitted : Fitted plus minus n takes ran cod d u buffer has (put_mid 5 ((5 + c.length-n.result) - 5) xs ys) =
    subst (λ k. Fitted plus minus n takes ran cod d u buffer has (put_mid 5 ((5 + k) - 5) xs ys)) (sym c.length-n.ensures) wrote in
    record {
      answer = fitted.answer;
      right = λ _ _. fitted.right;
      refused = λ e. absurd (true≢false e);
      short = fitted.short;
      rest = fitted.rest;
    }

pub returns : goal.returns
returns g c =
    let n : ℕ = g.A.Atom.len in
    let takes = g.A.Atom.takes in
    let ran = g.A.Atom.ran in
    let plus = g.A.Arith.Arithmetic.plus in
    let minus = g.A.Arith.Arithmetic.minus in
    let cod = c.args.update.now.codelet.now in
    let d = c.args.update.now.decided in
    let u = c.args.update.now.source in
    let f : Fork = c.in-Some.f in
    let buffer : List ℕ = c.args.buffer.now in
    let k : ℕ = c.length-n.result in
    let same : k ≡ n = c.length-n.ensures in
    let xs : List ℕ = c.write_predicate-2.new.buffer in
    let ys : List ℕ = c.fit-2.new.buffer in
    let zs : List ℕ = c.fit-3.new.buffer in
    let has : has_room (choice_length n) buffer ≡ true = ap (λ m. has_room m buffer) (sym c.length.ensures) ∙ sym c.has_room.ensures ∙ c.if-not-has_room.false in
    let kept : taken_fork takes cod d u ≡ Some f = sym c.in-Some.ensures in
    let t = and_parts _ _ (taken_is cod d takes u f kept).1 in
    let head = head_fits plus minus n takes ran cod d u buffer has in
    let yes = c.arm.ensures in
    let no = c.arm-2.ensures in
    let wrote : Fitted plus minus n takes ran cod d u buffer has (put_mid (5 + n) ((5 + 2 * n) - (5 + n)) (put_mid 5 ((5 + n) - 5) xs ys) zs) =
    fork_wrote plus minus n takes ran cod d u buffer has xs c.write_predicate-2.auto.buffer c.write_predicate-2.ensures.rest f ys zs
    (sym c.if-class.ensures) kept (c.write_predicate-2.ensures.written head)
    (c.fit-2.auto.buffer ∙ ap (λ m. length (take ((5 + m) - 5) (drop 5 xs))) same)
    (c.fit-3.auto.buffer ∙ ap (λ m. length (take ((5 + 2 * m) - (5 + m)) (drop (5 + m) (put_mid 5 ((5 + m) - 5) xs ys)))) same)
    (λ h. at_update (λ x e a. Right plus minus ran x e a ys) _ _ _ _ _ _ yes.codelet yes.decided yes.source
    (c.fit-2.ensures.right
    (c.fit-2.ensures.answer ∙ at_update (λ x e a. takes x e a ≡ true) _ _ _ _ _ _ (sym yes.codelet) (sym yes.decided) (sym yes.source) t.0)
    (ap (λ m. has_room n (take ((5 + m) - 5) (drop 5 xs))) same ∙ h)))
    (λ h. at_update (λ x e a. Right plus minus ran x e a zs) _ _ _ _ _ _ no.codelet no.decided no.source
    (c.fit-3.ensures.right
    (c.fit-3.ensures.answer ∙ at_update (λ x e a. takes x e a ≡ true) _ _ _ _ _ _ (sym no.codelet) (sym no.decided) (sym no.source) t.1)
    (ap (λ m. has_room n (take ((5 + 2 * m) - (5 + m)) (drop (5 + m) (put_mid 5 ((5 + m) - 5) xs ys)))) same ∙ h))) in
    let fitted : Fitted plus minus n takes ran cod d u buffer has (put_mid (5 + k) ((5 + 2 * k) - (5 + k)) (put_mid 5 ((5 + k) - 5) xs ys) zs) =
    subst (λ m. Fitted plus minus n takes ran cod d u buffer has (put_mid (5 + m) ((5 + 2 * m) - (5 + m)) (put_mid 5 ((5 + m) - 5) xs ys) zs)) (sym same) wrote in
    record {
      answer = fitted.answer;
      right = λ _ _. fitted.right;
      refused = λ e. absurd (true≢false e);
      short = fitted.short;
      rest = fitted.rest;
    }
