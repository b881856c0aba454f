-- The rules of resolving leave no choice. Assumes nothing.
use Rattle.std.proofs.Common.{◌≡◌, ℕ, zero, suc, ◌<◌, ◌≤◌, Bool, true, false, Some, None, Option, sym, refl, ap, ◌∙◌, subst, ⊎_elim, arith}
use Rattle.std.proofs.lemmas.Bool.{and_parts, cases_lt, ltb-true}
use Rattle.lines.specs.declared.line.Source.{Source}
use Rattle.lines.specs.declared.line.Source.TheVariants.{Field, Line as Made, Constant}
use Rattle.lines.specs.declared.line.Line.{Line}
use Rattle.lines.specs.declared.line.Line.TheVariants.{Read, Copy, Add, Sub, Less, Equal, Choose, Write}
use Rattle.resolving.specs.declared.codelet.Codelet.{Codelet}
use Rattle.resolving.specs.declared.decided.Decided.{Decided}
use Rattle.resolving.specs.Codelets.{line_at, is_inner}
use Rattle.resolving.specs.Reads.{is_before}
use Rattle.resolving.specs.Resolving.{is_end, Resolves}
use Rattle.resolving.specs.Sameness.{decided_as}
use Rattle.resolving.proofs.Rules.{lower}

module _ (cod : Codelet) (d : Decided) (f g : Source → Source) (rf : Resolves cod d f) (rg : Resolves cod d g) where
  abbrev Alike : ℕ → Type 0
  Alike n = (m : ℕ) → m < n → f (Made m) ≡ g (Made m)

  source_alike : (n : ℕ) → Alike n → (a : Source) → is_before n a ≡ true → f a ≡ g a
  source_alike n k (Field i) b = rf.field i ∙ sym (rg.field i)
  source_alike n k (Made m) b = k m (ltb-true m n b)
  source_alike n k (Constant w) b = rf.constant w ∙ sym (rg.constant w)

  module _ (n : ℕ) (h : n < 208) (k : Alike n) (i : is_inner cod n ≡ true) where
    end_alike : (l : Line) → is_end l ≡ true → line_at cod n ≡ l → f (Made n) ≡ g (Made n)
    end_alike l q e = rf.end n h i (ap is_end e ∙ q) ∙ sym (rg.end n h i (ap is_end e ∙ q))

    choose_alike : (c a b : Source) (o : Option Bool) → line_at cod n ≡ Choose c a b → f c ≡ g c → f a ≡ g a → f b ≡ g b → decided_as d (f c) ≡ o → f (Made n) ≡ g (Made n)
    choose_alike c a b (Some true) e qc qa qb o = rf.first n c a b h i e o ∙ qa ∙ sym (rg.first n c a b h i e (ap (decided_as d) (sym qc) ∙ o))
    choose_alike c a b (Some false) e qc qa qb o = rf.second n c a b h i e o ∙ qb ∙ sym (rg.second n c a b h i e (ap (decided_as d) (sym qc) ∙ o))
    choose_alike c a b None e qc qa qb o = rf.undecided n c a b h i e o ∙ sym (rg.undecided n c a b h i e (ap (decided_as d) (sym qc) ∙ o))

    line_alike : (l : Line) → line_at cod n ≡ l → f (Made n) ≡ g (Made n)
    line_alike (Read s) e = end_alike (Read s) refl e
    line_alike (Copy a) e = rf.copy n a h i e ∙ source_alike n k a (and_parts _ _ (lower cod d n (Copy a) i e)).0 ∙ sym (rg.copy n a h i e)
    line_alike (Add a b) e = end_alike (Add a b) refl e
    line_alike (Sub a b) e = end_alike (Sub a b) refl e
    line_alike (Less a b) e = end_alike (Less a b) refl e
    line_alike (Equal a b) e = end_alike (Equal a b) refl e
    line_alike (Choose c a b) e =
        let pc = and_parts _ _ (lower cod d n (Choose c a b) i e) in
        let pa = and_parts _ _ pc.1 in
        let pb = and_parts _ _ pa.1 in
        choose_alike c a b (decided_as d (f c)) e (source_alike n k c pc.0) (source_alike n k a pa.0) (source_alike n k b pb.0) refl
    line_alike (Write s a) e = end_alike (Write s a) refl e

  one_alike : (n : ℕ) → n < 208 → Alike n → f (Made n) ≡ g (Made n)
  one_alike n h k = go (is_inner cod n) refl
    where
      go : (b : Bool) → is_inner cod n ≡ b → f (Made n) ≡ g (Made n)
      go true i = line_alike n h k i (line_at cod n) refl
      go false i = rf.outside n i ∙ sym (rg.outside n i)

  all_alike : (n : ℕ) → n ≤ 208 → Alike n
  all_alike zero l m h = absurd (omega arith)
  all_alike (suc n) l m h =
      ⊎_elim
      (λ (below : m < n). all_alike n (omega arith) m below)
      (λ (above : n ≤ m). let e : n ≡ m = omega arith in subst (λ j. f (Made j) ≡ g (Made j)) e (one_alike n (omega arith) (all_alike n (omega arith))))
      (cases_lt m n)

  pub alike : (a : Source) → is_before 208 a ≡ true → f a ≡ g a
  alike a b = source_alike 208 (all_alike 208 (omega arith)) a b
