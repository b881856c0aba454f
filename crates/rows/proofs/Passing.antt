-- Passes raise numbers to the rows. Assumes nothing.
use Rattle.std.proofs.Common.{◌≡◌, ℕ, zero, suc, ◌+◌, ◌<◌, ◌≤◌, Bool, true, false, List, length, set, sym, refl, ap, ◌∙◌, subst, ⊎_elim, le_antisymm, arith, length-set, get_or-set_other, get_or-set_same, below_more}
use Rattle.std.proofs.lemmas.Bool.{both_ways, cases_eq}
use Rattle.lines.specs.declared.lines.Lines.{Lines}
use Rattle.rows.specs.Makers.{makes}
use Rattle.rows.specs.Rows.{highest, row_by, row_of}
use Rattle.rows.specs.Passes.{row_at, Under, gap, Passed}
use Rattle.rows.proofs.Highest.{highest_le}
use Rattle.rows.proofs.Ranks.{rule_all, row_last}

module _ (r : Lines) where
  -- numbers above their makers' are above the rows
  row_least : (f : ℕ → ℕ) → ((n : ℕ) → n < r.count → 1 + highest r.count (λ m. makes r m n) f ≤ f n) → (fuel n : ℕ) → n < r.count → row_by r fuel n ≤ f n
  row_least f h zero n lt = omega arith
  row_least f h (suc fuel) n lt =
      let t = highest_le r.count (λ m. makes r m n) (row_by r fuel) f (λ m hm _. row_least f h fuel m hm) in let s = h n lt in omega arith

  rows_least : (f : ℕ → ℕ) → ((n : ℕ) → n < r.count → 1 + highest r.count (λ m. makes r m n) f ≤ f n) → (n : ℕ) → n < r.count → row_of r n ≤ f n
  unfolding row_of
  rows_least f h = row_least f h 43681

  gap_le : (l l' : List ℕ) (n : ℕ) → ((k : ℕ) → k < n → row_at l k ≤ row_at l' k) → gap r l' n ≤ gap r l n
  gap_le l l' zero h = omega arith
  gap_le l l' (suc n) h = let t = gap_le l l' n (λ k lt. h k (omega arith)) in let s = h n (omega arith) in omega arith

  gap_lt : (l l' : List ℕ) (n j : ℕ) → ((k : ℕ) → k < n → row_at l k ≤ row_at l' k) → j < n → row_at l j < row_at l' j → row_at l' j ≤ row_of r j → gap r l' n < gap r l n
  gap_lt l l' zero j h lt a b = absurd (omega arith)
  gap_lt l l' (suc n) j h lt a b = ⊎_elim at (λ ne. let t = gap_lt l l' n j (λ k lt. h k (omega arith)) (omega arith) a b in let s = h n (omega arith) in omega arith) (cases_eq j n)
    where
      at : j ≡ n → gap r l' (suc n) < gap r l (suc n)
      at e =
          let a' = subst (λ i. row_at l i < row_at l' i) e a in
          let b' = subst (λ i. row_at l' i ≤ row_of r i) e b in
          let t = gap_le l l' n (λ k lt. h k (omega arith)) in
          omega arith

  pub above_low : (l : List ℕ) (n x : ℕ) → Under r l → n < r.count → x ≡ highest r.count (λ m. makes r m n) (row_at l) → x + 1 ≤ row_of r n
  above_low l n x u h e = let t = highest_le r.count (λ m. makes r m n) (row_at l) (row_of r) (λ m hm _. u m hm) in let s = rule_all r n h in omega arith

  -- the next number fits
  pub next_low : (l : List ℕ) (n x : ℕ) → Under r l → n < r.count → x ≡ highest r.count (λ m. makes r m n) (row_at l) → x + 1 ≤ 208
  next_low l n x u h e = let t = above_low l n x u h e in let s = row_last r n h in let few = r.few in omega arith

  -- a pass on its way
  pub record Passing (old new : List ℕ) (changed : Bool) (n : ℕ) : Type 0 where
    pub long : length new ≡ length old
    pub under : Under r new
    pub less : changed ≡ true → gap r new r.count < gap r old r.count
    pub same : changed ≡ false → new ≡ old
    pub done : changed ≡ false → (k : ℕ) → k < n → 1 + highest r.count (λ m. makes r m k) (row_at new) ≤ row_at new k

  pub pass_start : (l : List ℕ) → Under r l → Passing l l false 0
  pass_start l u = record { long = refl; under = u; less = λ e. absurd (both_ways _ refl e); same = λ _. refl; done = λ _ k lt. absurd (omega arith) }

  pub pass_keep : (old new new' : List ℕ) (c c' : Bool) (n x : ℕ) → Passing old new c n → new' ≡ new → c' ≡ c → x ≡ highest r.count (λ m. makes r m n) (row_at new) → x + 1 ≤ row_at new n → Passing old new' c' (n + 1)
  pass_keep old new new' c c' n x s p q e h =
      rw (p, q) (record { long = s.long; under = s.under; less = s.less; same = s.same; done = λ f. below_more (λ k. 1 + highest r.count (λ m. makes r m k) (row_at new) ≤ row_at new k) n (s.done f) (let g : 1 + highest r.count (λ m. makes r m n) (row_at new) ≤ row_at new n = omega arith in g) })

  lesser : (old new : List ℕ) (c : Bool) (n : ℕ) → Passing old new c n → gap r new r.count ≤ gap r old r.count
  lesser old new true n s = omega (arith, s.less refl)
  lesser old new false n s = omega (arith, ap (λ l. gap r l r.count) (s.same refl))

  pub pass_write : (old new new' : List ℕ) (c c' : Bool) (n x : ℕ) → Passing old new c n → new' ≡ set new n (x + 1) → c' ≡ true → n < r.count → n < length new → x ≡ highest r.count (λ m. makes r m n) (row_at new) → row_at new n < x + 1 → Passing old new' c' (n + 1)
  pass_write old new new' c c' n x s p q hn hl e lt =
      let here = get_or-set_same new n (x + 1) 0 hl in
      let top = above_low new n x s.under hn e in
      let least = lesser old new c n s in
      rw (p, q) (record {
        long = length-set new n (x + 1) ∙ s.long;
        under = λ k hk. ⊎_elim (λ (z : k ≡ n). subst (λ i. row_at (set new n (x + 1)) i ≤ row_of r i) (sym z) (let g : row_at (set new n (x + 1)) n ≤ row_of r n = omega arith in g)) (λ ne. let o = get_or-set_other new n k (x + 1) 0 ne in let u = s.under k hk in omega arith) (cases_eq k n);
        less = λ _. let t = gap_lt new (set new n (x + 1)) r.count n (λ k hk. ⊎_elim (λ (z : k ≡ n). subst (λ i. row_at new i ≤ row_at (set new n (x + 1)) i) (sym z) (let g : row_at new n ≤ row_at (set new n (x + 1)) n = omega arith in g)) (λ ne. let o = get_or-set_other new n k (x + 1) 0 ne in omega arith) (cases_eq k n)) hn (omega arith) (omega arith) in omega arith;
        same = λ f. absurd (both_ways _ f refl);
        done = λ f. absurd (both_ways _ f refl);
      })

  pub pass_end : (old new : List ℕ) (c : Bool) (n : ℕ) → Passing old new c n → r.count ≤ n → Passed r old new c
  pass_end old new c n s h = record { long = s.long; under = s.under; less = s.less; done = λ f k lt. s.done f k (omega arith) }

  pub at_last : (l : List ℕ) → Under r l → ((n : ℕ) → n < r.count → 1 + highest r.count (λ m. makes r m n) (row_at l) ≤ row_at l n) → (n : ℕ) → n < r.count → row_at l n ≡ row_of r n
  at_last l u d n h = le_antisymm (u n h) (rows_least (row_at l) d n h)
