-- The table of resolved lines obeys the rules of resolving. Assumes nothing.
use Rattle.std.proofs.Common.{◌≡◌, ℕ, ◌+◌, ◌<◌, Bool, true, false, Some, None, Option, sym, refl, ap, ◌∙◌, subst, arith}
use Rattle.std.proofs.lemmas.Bool.{and_parts, false≢true}
use Rattle.lines.specs.declared.line.Source.{Source}
use Rattle.lines.specs.declared.line.Source.TheVariants.{Line as Made}
use Rattle.lines.specs.declared.line.Line.{Line}
use Rattle.lines.specs.declared.line.Line.TheVariants.{Read, Copy, Add, Sub, Less, Equal, Choose, Write}
use Rattle.resolving.specs.declared.codelet.Codelet.{Codelet}
use Rattle.resolving.specs.declared.decided.Decided.{Decided}
use Rattle.resolving.specs.Codelets.{line_at, is_inner}
use Rattle.lines.specs.Layout.{sources_of}
use Rattle.resolving.specs.Reads.{are_before}
use Rattle.resolving.specs.Resolving.{is_end, found, arm, through, table, resolved_to, Resolves}
use Rattle.resolving.specs.Sameness.{decided_as}
use Rattle.resolving.proofs.Before.{lower_at}
use Rattle.resolving.proofs.Tables.{found_before, inner_entry, outside_entry}

module _ (cod : Codelet) (d : Decided) where
  -- an inner line reads lower lines
  pub lower : (n : ℕ) (l : Line) → is_inner cod n ≡ true → line_at cod n ≡ l → are_before n (sources_of l) ≡ true
  lower n l i e =
      let z : 0 + n ≡ n = omega arith in
      subst (λ m. are_before m (sources_of l) ≡ true) z (ap (λ k. are_before (0 + n) (sources_of k)) (sym e) ∙ lower_at 0 cod.lines cod.inner n cod.lower i)

  end_entry : (n : ℕ) (l : Line) → is_end l ≡ true → through d (table cod d n) n l ≡ Made n
  end_entry n (Read s) e = refl
  end_entry n (Copy a) e = absurd (false≢true e)
  end_entry n (Add a b) e = refl
  end_entry n (Sub a b) e = refl
  end_entry n (Less a b) e = refl
  end_entry n (Equal a b) e = refl
  end_entry n (Choose c a b) e = absurd (false≢true e)
  end_entry n (Write s a) e = refl

  copy_entry : (n : ℕ) (a : Source) → n < 208 → is_inner cod n ≡ true → line_at cod n ≡ Copy a → resolved_to cod d (Made n) ≡ resolved_to cod d a
  copy_entry n a h i e = inner_entry cod d n (Copy a) h i e ∙ found_before cod d n h a (and_parts _ _ (lower n (Copy a) i e)).0

  choose_entry : (n : ℕ) (c a b : Source) → n < 208 → is_inner cod n ≡ true → line_at cod n ≡ Choose c a b → resolved_to cod d (Made n) ≡ arm (decided_as d (resolved_to cod d c)) (resolved_to cod d a) (resolved_to cod d b) (Made n)
  choose_entry n c a b h i e =
      let t = table cod d n in
      let pc = and_parts _ _ (lower n (Choose c a b) i e) in
      let pa = and_parts _ _ pc.1 in
      let pb = and_parts _ _ pa.1 in
      inner_entry cod d n (Choose c a b) h i e
      ∙ ap (λ r. arm (decided_as d r) (found t a) (found t b) (Made n)) (found_before cod d n h c pc.0)
      ∙ ap (λ r. arm (decided_as d (resolved_to cod d c)) r (found t b) (Made n)) (found_before cod d n h a pa.0)
      ∙ ap (λ r. arm (decided_as d (resolved_to cod d c)) (resolved_to cod d a) r (Made n)) (found_before cod d n h b pb.0)

  choose_decided : (n : ℕ) (c a b : Source) (o : Option Bool) → n < 208 → is_inner cod n ≡ true → line_at cod n ≡ Choose c a b → decided_as d (resolved_to cod d c) ≡ o → resolved_to cod d (Made n) ≡ arm o (resolved_to cod d a) (resolved_to cod d b) (Made n)
  choose_decided n c a b o h i e k = choose_entry n c a b h i e ∙ ap (λ p. arm p (resolved_to cod d a) (resolved_to cod d b) (Made n)) k

  pub resolves : Resolves cod d (resolved_to cod d)
  resolves = record {
    field = λ i. refl;
    constant = λ w. refl;
    outside = outside_entry cod d;
    end = λ n h i e. inner_entry cod d n (line_at cod n) h i refl ∙ end_entry n (line_at cod n) e;
    copy = copy_entry;
    first = λ n c a b. choose_decided n c a b (Some true);
    second = λ n c a b. choose_decided n c a b (Some false);
    undecided = λ n c a b. choose_decided n c a b None;
  }
