-- The table of resolved lines, entry by entry. Assumes nothing.
use Rattle.std.proofs.Common.{◌≡◌, ℕ, zero, suc, ◌<◌, ◌≤◌, true, false, cond, List, [], ◌∷◌, ◌++◌, length, get_or, sym, refl, ap, ◌∙◌, subst, ⊎_elim, arith}
use Rattle.std.proofs.lemmas.List.{get_or_past, get_or_push, get_or_append_left, length_push}
use Rattle.std.proofs.lemmas.Bool.{cases_lt, cases_order, ltb-true}
use Rattle.lines.specs.declared.line.Source.{Source}
use Rattle.lines.specs.declared.line.Source.TheVariants.{Field, Line as Made, Constant}
use Rattle.lines.specs.declared.line.Line.{Line}
use Rattle.resolving.specs.declared.codelet.Codelet.{Codelet}
use Rattle.resolving.specs.declared.decided.Decided.{Decided}
use Rattle.resolving.specs.Codelets.{line_at, is_inner}
use Rattle.resolving.specs.Reads.{is_before}
use Rattle.resolving.specs.Resolving.{found, through, resolved_line, table}

module _ (cod : Codelet) (d : Decided) where
  pub table_length : (n : ℕ) → length (table cod d n) ≡ n
  unfolding table
  table_length zero = refl
  table_length (suc n) = length_push (table cod d n) (resolved_line cod d (table cod d n) n) ∙ omega (arith, table_length n)

  -- a longer table has the entries of a shorter one
  front : (m j n : ℕ) (x : Source) → m < n → n ≤ j → get_or (table cod d j) m x ≡ get_or (table cod d n) m x
  unfolding table
  front m zero n x h k = absurd (omega arith)
  front m (suc j) n x h k =
      ⊎_elim
      (λ (l : n < suc j). get_or_append_left (table cod d j) (resolved_line cod d (table cod d j) j ∷ []) x m (omega (arith, table_length j)) ∙ front m j n x h (omega arith))
      (λ (l : suc j ≤ n). let e : suc j ≡ n = omega arith in ap (λ i. get_or (table cod d i) m x) e)
      (cases_lt n (suc j))

  last : (n : ℕ) → get_or (table cod d (suc n)) n (Made n) ≡ resolved_line cod d (table cod d n) n
  unfolding table
  last n = get_or_push (table cod d n) (resolved_line cod d (table cod d n) n) (Made n) n (table_length n)

  entry : (n : ℕ) → n < 208 → get_or (table cod d 208) n (Made n) ≡ resolved_line cod d (table cod d n) n
  entry n h = front n 208 (suc n) (Made n) (omega arith) h ∙ last n

  -- what line n reads is found in the table of the lines before it as in the whole
  pub found_before : (n : ℕ) → n < 208 → (a : Source) → is_before n a ≡ true → found (table cod d n) a ≡ found (table cod d 208) a
  found_before n h (Field i) b = refl
  found_before n h (Made m) b = sym (front m 208 n (Made m) (ltb-true m n b) (omega arith))
  found_before n h (Constant w) b = refl

  pub inner_entry : (n : ℕ) (l : Line) → n < 208 → is_inner cod n ≡ true → line_at cod n ≡ l → found (table cod d 208) (Made n) ≡ through d (table cod d n) n l
  inner_entry n l h i e =
      entry n h
      ∙ ap (λ b. cond b (through d (table cod d n) n (line_at cod n)) (Made n)) i
      ∙ ap (through d (table cod d n) n) e

  pub outside_entry : (n : ℕ) → is_inner cod n ≡ false → found (table cod d 208) (Made n) ≡ Made n
  outside_entry n i =
      ⊎_elim
      (λ (h : n < 208). entry n h ∙ ap (λ b. cond b (through d (table cod d n) n (line_at cod n)) (Made n)) i)
      (λ (h : 208 ≤ n). get_or_past (table cod d 208) n (Made n) (omega (arith, table_length 208)))
      (cases_lt n 208)

-- what holds of each line's own source, and of each entry that is made, holds of every entry
module _ (Q : ℕ → Source → Type 0) (own : (m : ℕ) → Q m (Made m)) where
  abbrev pub EachEntry : List Source → Type 0
  EachEntry t = (m : ℕ) → Q m (get_or t m (Made m))

  push_each : (t : List Source) (y : Source) → EachEntry t → Q (length t) y → EachEntry (t ++ (y ∷ []))
  push_each t y k e m =
      ⊎_elim
      (λ (same : m ≡ length t). subst (Q m) (sym (get_or_push t y (Made m) m (sym same))) (subst (λ i. Q i y) (sym same) e))
      (⊎_elim
      (λ (below : m < length t). subst (Q m) (sym (get_or_append_left t (y ∷ []) (Made m) m below)) (k m))
      (λ (above : length t < m). subst (Q m) (sym (get_or_past (t ++ (y ∷ [])) m (Made m) (omega (arith, length_push t y)))) (own m)))
      (cases_order m (length t))

  pub table_each : (cod : Codelet) (d : Decided) → ((t : List Source) → EachEntry t → (n : ℕ) → Q n (resolved_line cod d t n)) → (n : ℕ) → EachEntry (table cod d n)
  unfolding table
  table_each cod d step zero = own
  table_each cod d step (suc n) =
      let t = table cod d n in
      let k = table_each cod d step n in
      push_each t (resolved_line cod d t n) k (subst (λ i. Q i (resolved_line cod d t n)) (sym (table_length cod d n)) (step t k n))
