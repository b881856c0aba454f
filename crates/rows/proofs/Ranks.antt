-- From a node to the makers of what it reads a rank falls: 209 times the lines that reach it, and then its place in its codelet. Assumes nothing.
use Rattle.std.proofs.Common.{◌≡◌, ℕ, zero, suc, ◌+◌, ◌-◌, ◌*◌, ◌<◌, ◌≤◌, Bool, true, false, cond, not, leb, Decides, refl, ap, ◌∙◌, subst, ⊎_elim, arith}
use Rattle.std.proofs.lemmas.Bool.{false_from_ne_true, both_ways, cases_Bool, cond-false, and_parts, or_left, not-true, leb-true, le-leb}
use Rattle.graph.specs.Paths.{Path, here}
use Rattle.graph.specs.Rounds.{closure, reaches}
use Rattle.graph.proofs.Paths.{path_from, path_to, path_edge, path_then}
use Rattle.graph.proofs.Rounds.{some_decides, closure_decides}
use Rattle.lines.specs.declared.line.Line.{Line}
use Rattle.lines.specs.declared.line.Line.TheVariants.{Read, Copy, Add, Sub, Less, Equal, Choose, Write}
use Rattle.lines.specs.declared.lines.Lines.{Lines}
use Rattle.lines.specs.Layout.{reads_line}
use Rattle.line_graph.specs.Edges.{line_at, read_by, edge}
use Rattle.codelets.specs.Codelets.{InCodelet, in_codelet}
use Rattle.codelets.proofs.Paths.{codelet_decides}
use Rattle.codelets.proofs.InOrder.{lower}
use Rattle.codelets.proofs.Joining.{joined, read_of_lem}
use Rattle.stages.specs.Filling.{tally}
use Rattle.stages.proofs.Counts.{tally_most, tally_le, tally_lt}
use Rattle.rows.specs.Sorts.{is_read}
use Rattle.rows.specs.Makers.{read_inside, atom_reads, reads_as, makes}
use Rattle.rows.specs.Rows.{highest, row_by, row_of}
use Rattle.rows.proofs.Highest.{highest_same, highest_holds, highest_some}

off_le : (b : Bool) (n : ℕ) → cond b 0 (n + 1) ≤ n + 1
off_le true n = omega arith
off_le false n = omega arith

module _ (r : Lines) where
  abbrev above : ℕ → ℕ → Bool
  above m n = reaches (closure r.count (edge r)) m n

  above_decides : (m n : ℕ) → Decides (above m n) (Path r.count (edge r) m n)
  above_decides m n = closure_decides r.count (edge r) m n

  abbrev ancestors : ℕ → ℕ
  ancestors n = tally r.count (λ m. above m n)

  abbrev rank : ℕ → ℕ
  rank n = 209 * ancestors n + cond (is_read (line_at r n)) 0 (n + 1)

  -- what reaches a, from where n is reached, reaches n
  more : (a n : ℕ) → Path r.count (edge r) a n → ancestors a ≤ ancestors n
  more a n p = tally_le r.count (λ m. above m a) (λ m. above m n) (λ m _ e. (above_decides m n).1 (path_then r.count (edge r) ((above_decides m a).0 e) p))

  strictly : (a n : ℕ) → Path r.count (edge r) a n → (Path r.count (edge r) n a → ⊥) → ancestors a < ancestors n
  strictly a n p never =
      tally_lt r.count (λ m. above m a) (λ m. above m n) n (λ m _ e. (above_decides m n).1 (path_then r.count (edge r) ((above_decides m a).0 e) p)) (path_to r.count (edge r) p) (false_from_ne_true (above n a) (λ e. never ((above_decides n a).0 e))) ((above_decides n n).1 (here (path_to r.count (edge r) p)))

  reads_path : (a n : ℕ) → n < r.count → read_by r a n ≡ true → Path r.count (edge r) a n
  reads_path a n h e = path_edge r.count (edge r) a n (let lt = lower r a n h e in omega arith) h (or_left (read_by r a n) _ e)

  -- a line reads a lower one
  falls_line : (a n : ℕ) → n < r.count → is_read (line_at r n) ≡ false → read_by r a n ≡ true → rank a < rank n
  falls_line a n h b e =
      let p = reads_path a n h e in
      let lt = lower r a n h e in
      let o = off_le (is_read (line_at r a)) a in
      let q = cond-false (is_read (line_at r n)) 0 (n + 1) b in
      let t = more a n p in
      let few = r.few in
      ⊎_elim (λ on. omega arith) (λ off. let s = strictly a n p (λ w. both_ways _ off ((above_decides n a).1 w)) in omega arith) (cases_Bool (above n a))

  -- an atom reads what its codelet has from outside
  falls_atom : (a n s : ℕ) → n < r.count → line_at r n ≡ Read s → atom_reads r s a ≡ true → rank a < rank n
  falls_atom a n s h l e =
      let (f, t) = and_parts (not (in_codelet r s a)) _ e in
      let (i, hi, u) = (some_decides (read_inside r s a) r.count).0 t in
      let (c, x) = and_parts (in_codelet r s i) _ u in
      let (k, q) = read_of_lem r s n h l in
      let at = subst (λ m. InCodelet r s m) q (joined r s k).read in
      let ci = (codelet_decides r s i).0 c in
      let p = path_then r.count (edge r) (reads_path a i hi x) (path_then r.count (edge r) ci.back at.from) in
      let s = strictly a n p (λ w. both_ways _ (not-true _ f) ((codelet_decides r s a).1 (record { named = k; from = path_then r.count (edge r) at.from w; back = path_then r.count (edge r) p at.back }))) in
      let o = off_le (is_read (line_at r a)) a in
      let few = r.few in
      let ha = path_from r.count (edge r) p in
      omega arith

  pub falls : (a n : ℕ) → n < r.count → makes r a n ≡ true → rank a < rank n
  falls a n h e = go (line_at r n) refl e
    where
      go : (l : Line) → line_at r n ≡ l → reads_as r a l ≡ true → rank a < rank n
      go (Read s) q t = falls_atom a n s h q t
      go (Copy x) q t = falls_line a n h (ap is_read q) (ap (reads_line a) q ∙ t)
      go (Add x y) q t = falls_line a n h (ap is_read q) (ap (reads_line a) q ∙ t)
      go (Sub x y) q t = falls_line a n h (ap is_read q) (ap (reads_line a) q ∙ t)
      go (Less x y) q t = falls_line a n h (ap is_read q) (ap (reads_line a) q ∙ t)
      go (Equal x y) q t = falls_line a n h (ap is_read q) (ap (reads_line a) q ∙ t)
      go (Choose x y z) q t = falls_line a n h (ap is_read q) (ap (reads_line a) q ∙ t)
      go (Write s x) q t = falls_line a n h (ap is_read q) (ap (reads_line a) q ∙ t)

  rank_low : (n : ℕ) → n < r.count → rank n < 43681
  rank_low n h = let t = tally_most r.count (λ m. above m n) in let o = off_le (is_read (line_at r n)) n in let few = r.few in omega arith

  row_stable : (f g n : ℕ) → n < r.count → rank n < f → rank n < g → row_by r f n ≡ row_by r g n
  row_stable zero g n h lf lg = absurd (omega arith)
  row_stable (suc f) zero n h lf lg = absurd (omega arith)
  row_stable (suc f) (suc g) n h lf lg =
      ap (λ x. 1 + x) (highest_same r.count (λ m. makes r m n) (row_by r f) (row_by r g) (λ m hm e. let t = falls m n h e in row_stable f g m hm (omega arith) (omega arith)))

  row_rule : (fuel : ℕ) → ((n : ℕ) → n < r.count → rank n < fuel) → (n : ℕ) → n < r.count → row_by r fuel n ≡ 1 + highest r.count (λ m. makes r m n) (row_by r fuel)
  row_rule zero low n h = absurd (let t = low n h in omega arith)
  row_rule (suc f) low n h =
      ap (λ x. 1 + x) (highest_same r.count (λ m. makes r m n) (row_by r f) (row_by r (suc f)) (λ m hm e. let t = falls m n h e in let s = low n h in row_stable f (suc f) m hm (omega arith) (omega arith)))

  -- the rule holds at every line
  pub rule_all : (n : ℕ) → n < r.count → row_of r n ≡ 1 + highest r.count (λ m. makes r m n) (row_of r)
  unfolding row_of
  rule_all = row_rule 43681 rank_low

  -- numbers that follow the rule at some lines, with all their makers, are the rows there
  module _ (at : ℕ → Bool) (within : (n : ℕ) → at n ≡ true → n < r.count) (makers : (m n : ℕ) → m < r.count → at n ≡ true → makes r m n ≡ true → at m ≡ true) (f : ℕ → ℕ) (rule : (n : ℕ) → at n ≡ true → f n ≡ 1 + highest r.count (λ m. makes r m n) f) where
    row_only : (fuel n : ℕ) → at n ≡ true → rank n < fuel → f n ≡ row_by r fuel n
    row_only zero n h low = absurd (omega arith)
    row_only (suc fuel) n h low =
        rule n h ∙ ap (λ x. 1 + x) (highest_same r.count (λ m. makes r m n) f (row_by r fuel) (λ m hm e. let t = falls m n (within n h) e in row_only fuel m (makers m n hm h e) (omega arith)))

    pub rule_only : (n : ℕ) → at n ≡ true → f n ≡ row_of r n
    unfolding row_of
    rule_only n h = row_only 43681 n h (rank_low n (within n h))

  -- a maker's row is lower
  pub rule_lower : (m n : ℕ) → m < r.count → n < r.count → makes r m n ≡ true → row_of r m < row_of r n
  rule_lower m n hm hn e = let t = rule_all n hn in let s = highest_holds r.count (λ m. makes r m n) (row_of r) m hm e in omega arith

  pub row_first : (n : ℕ) → n < r.count → 1 ≤ row_of r n
  row_first n h = let t = rule_all n h in omega arith

  -- every number up to a row is some line's row
  each_row : (d k n : ℕ) → n < r.count → 1 ≤ k → row_of r n ≡ k + d → (m : ℕ) × (m < r.count) × (row_of r m ≡ k)
  each_row zero k n h le e = (n, h, omega arith)
  each_row (suc d) k n h le e =
      let t = rule_all n h in
      ⊎_elim (λ z. absurd (omega arith)) (λ (m, hm, _, q). each_row d k m hm le (omega arith)) (highest_some r.count (λ m. makes r m n) (row_of r))

  -- so there are as many lines
  enough : (k n : ℕ) → n < r.count → k ≤ row_of r n → k ≤ tally r.count (λ m. leb (row_of r m) k)
  enough zero n h le = omega arith
  enough (suc k) n h le =
      let t = enough k n h (omega arith) in
      let (m, hm, q) = each_row (row_of r n - suc k) (suc k) n h (omega arith) (omega arith) in
      let s = tally_lt r.count (λ m. leb (row_of r m) k) (λ m. leb (row_of r m) (suc k)) m (λ i _ e. let u = leb-true (row_of r i) k e in le-leb (row_of r i) (suc k) (omega arith)) hm (false_from_ne_true (leb (row_of r m) k) (λ e. let u = leb-true (row_of r m) k e in omega arith)) (le-leb (row_of r m) (suc k) (omega arith)) in
      omega arith

  pub row_last : (n : ℕ) → n < r.count → row_of r n ≤ r.count
  row_last n h = let t = enough (row_of r n) n h (omega arith) in let s = tally_most r.count (λ m. leb (row_of r m) (row_of r n)) in omega arith
