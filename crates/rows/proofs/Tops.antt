-- The highest number among the makers, found by what lines read. Assumes nothing.
use Rattle.std.proofs.Common.{◌≡◌, ℕ, zero, suc, ◌<◌, max, Bool, false, cond, not, sym, refl, ap, ◌∙◌, ap₂, ⊎_elim, le_trans, le_antisymm, arith}
use Rattle.std.proofs.lemmas.Bool.{cases_Bool, cond-true, cond-false, and_parts, and_from, not-true, not_from_false}
use Rattle.graph.proofs.Rounds.{some_decides}
use Rattle.lines.specs.declared.line.Line.{Line}
use Rattle.lines.specs.declared.line.Line.TheVariants.{Read}
use Rattle.lines.specs.declared.lines.Lines.{Lines}
use Rattle.lines.specs.Layout.{sources_of}
use Rattle.line_graph.specs.Edges.{line_at, read_by}
use Rattle.codelets.specs.Codelets.{in_codelet}
use Rattle.codelets.proofs.InOrder.{lower}
use Rattle.rows.specs.Sorts.{is_read}
use Rattle.rows.specs.Makers.{read_inside, atom_reads, reads_as, makes}
use Rattle.rows.specs.Rows.{highest}
use Rattle.rows.specs.Passes.{line_top, outside_of, atom_top}
use Rattle.rows.proofs.Highest.{highest_holds, highest_least, top_holds, top_least, top_highest}
use Rattle.rows.proofs.Sorting.{as_line}

module _ (r : Lines) (f : ℕ → ℕ) where
  line_highest : (n : ℕ) → n < r.count → line_top f (line_at r n) ≡ highest r.count (λ m. read_by r m n) f
  line_highest n h = top_highest f (sources_of (line_at r n)) r.count (λ m e. let t = lower r m n h e in omega arith)

  highest_tests : (size : ℕ) (p q : ℕ → Bool) → ((m : ℕ) → p m ≡ q m) → highest size p f ≡ highest size q f
  highest_tests zero p q h = refl
  highest_tests (suc n) p q h = ap₂ (λ b x. max (cond b (f n) 0) x) (h n) (highest_tests n p q h)

  pub above_line : (n : ℕ) (l : Line) → n < r.count → l ≡ line_at r n → is_read l ≡ false → line_top f l ≡ highest r.count (λ m. makes r m n) f
  above_line n l h q u =
      ap (λ (x : Line). line_top f x) q ∙ (line_highest n h ∙ highest_tests r.count (λ m. read_by r m n) (λ m. makes r m n) (λ m. sym (as_line r m (line_at r n) (ap is_read (sym q) ∙ u))))

  atom_highest : (s : ℕ) → atom_top r s f ≡ highest r.count (atom_reads r s) f
  atom_highest s = le_antisymm
      (highest_least r.count (in_codelet r s) (λ i. line_top (outside_of r s f) (line_at r i)) top (λ i hi c. top_least (outside_of r s f) (sources_of (line_at r i)) top (λ m e. ⊎_elim (λ t. omega (arith, cond-true (in_codelet r s m) 0 (f m) t)) (λ t. le_trans (omega (arith, cond-false (in_codelet r s m) 0 (f m) t)) (highest_holds r.count (atom_reads r s) f m (let lt = lower r m i hi e in omega arith) (and_from _ _ (not_from_false _ t) ((some_decides (read_inside r s m) r.count).1 (i, hi, and_from _ _ c e))))) (cases_Bool (in_codelet r s m)))))
      (highest_least r.count (atom_reads r s) f (atom_top r s f) (λ m hm e. let (a, t) = and_parts (not (in_codelet r s m)) _ e in let (i, hi, u) = (some_decides (read_inside r s m) r.count).0 t in let (c, x) = and_parts (in_codelet r s i) _ u in
      let o = top_holds (outside_of r s f) (sources_of (line_at r i)) m x in
      let w = highest_holds r.count (in_codelet r s) (λ i. line_top (outside_of r s f) (line_at r i)) i hi c in
      let z = cond-false (in_codelet r s m) 0 (f m) (not-true _ a) in
      omega arith))
    where
      top : ℕ
      top = highest r.count (atom_reads r s) f

  pub above_atom : (n s : ℕ) → Read s ≡ line_at r n → atom_top r s f ≡ highest r.count (λ m. makes r m n) f
  above_atom n s q = atom_highest s ∙ highest_tests r.count (atom_reads r s) (λ m. makes r m n) (λ m. ap (reads_as r m) q)

-- the tops depend on the numbers alone
pub top_same : (l : Line) (f g : ℕ → ℕ) → ((n : ℕ) → f n ≡ g n) → line_top f l ≡ line_top g l
top_same l f g h = le_antisymm (top_least f (sources_of l) (line_top g l) (λ m e. let t = top_holds g (sources_of l) m e in let q = h m in omega arith)) (top_least g (sources_of l) (line_top f l) (λ m e. let t = top_holds f (sources_of l) m e in let q = h m in omega arith))
