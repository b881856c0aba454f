-- The nodes of a stage, listed from one to the next. Assumes nothing.
use Rattle.std.proofs.Common.{◌≡◌, ℕ, zero, suc, ◌+◌, ◌-◌, ◌<◌, ◌≤◌, Bool, true, false, cond, eqb, ltb, ◌⊎◌, List, [], ◌∷◌, length, get_or, filter, Some, None, Option, sym, refl, ap, ◌∙◌, inl, inr, arith, ltb-true}
use Rattle.std.specs.List.{range_with_len}
use Rattle.std.specs.Option.{ForSome}
use Rattle.std.proofs.lemmas.Bool.{cases_eq, cond-true, cond-false, eq-eqb, ne_eqb}
use Rattle.schedule.specs.Seek.{seek, first_from}
use Rattle.schedule.specs.Nodes.{nodes_from, with_others}
use Rattle.schedule.proofs.Seeking.{seek_finds, first_end, first_here, first_on}

nodes_end : (stages : List ℕ) (k n : ℕ) → length stages ≤ n → nodes_from stages k n ≡ []
unfolding nodes_from
nodes_end stages k n h =
    let none : length stages - n ≡ 0 = omega arith in
    ap {B = List ℕ} (λ (j : ℕ). filter (λ m. eqb (get_or stages m 0) k) (range_with_len n j)) none

nodes_step : (stages : List ℕ) (k n : ℕ) → n < length stages → nodes_from stages k n ≡ cond (eqb (get_or stages n 0) k) (n ∷ nodes_from stages k (n + 1)) (nodes_from stages k (n + 1))
unfolding nodes_from
nodes_step stages k n h =
    let more : length stages - n ≡ suc (length stages - (n + 1)) = omega arith in
    ap {B = List ℕ} (λ (j : ℕ). filter (λ m. eqb (get_or stages m 0) k) (range_with_len n j)) more

-- the first, with the others after it
listed : (more : ℕ) (stages : List ℕ) (k n : ℕ) → n + more ≡ length stages → with_others stages (first_from stages k n) ≡ nodes_from stages k n
listed zero stages k n h =
    ap {B = List ℕ} (with_others stages) (first_end stages k n (omega arith)) ∙ sym (nodes_end stages k n (omega arith))
listed (suc more) stages k n h = go (cases_eq (get_or stages n 0) k) (listed more stages k (n + 1) (omega arith))
  where
    go : (get_or stages n 0 ≡ k) ⊎ (get_or stages n 0 ≡ k → ⊥) → with_others stages (first_from stages k (n + 1)) ≡ nodes_from stages k (n + 1) → with_others stages (first_from stages k n) ≡ nodes_from stages k n
    go (inl e) t =
        ap {B = List ℕ} (with_others stages) (first_here stages k n (omega arith) e)
        ∙ ap {B = List ℕ} (λ (j : ℕ). n ∷ nodes_from stages j (n + 1)) e
        ∙ sym (nodes_step stages k n (omega arith) ∙ cond-true (eqb (get_or stages n 0) k) (n ∷ nodes_from stages k (n + 1)) (nodes_from stages k (n + 1)) (eq-eqb (get_or stages n 0) k e))
    go (inr ne) t =
        ap {B = List ℕ} (with_others stages) (first_on stages k n (omega arith) ne)
        ∙ t
        ∙ sym (nodes_step stages k n (omega arith) ∙ cond-false (eqb (get_or stages n 0) k) (n ∷ nodes_from stages k (n + 1)) (nodes_from stages k (n + 1)) (ne_eqb (get_or stages n 0) k ne))

pub with_others_from : (stages : List ℕ) (k n : ℕ) → n ≤ length stages → with_others stages (first_from stages k n) ≡ nodes_from stages k n
with_others_from stages k n h = listed (length stages - n) stages k n (omega arith)

-- it is in the table, and of the stage
first_in : (stages : List ℕ) (k n j : ℕ) → n ≤ length stages → first_from stages k n ≡ Some j → (j < length stages) × (get_or stages j 0 ≡ k)
first_in stages k n j h e = go (ltb (seek stages k n) (length stages)) refl e
  where
    go : (b : Bool) → ltb (seek stages k n) (length stages) ≡ b → cond b (Some (seek stages k n)) None ≡ Some j → (j < length stages) × (get_or stages j 0 ≡ k)
    go true t q =
        let lt = ltb-true (seek stages k n) (length stages) t in
        let m : seek stages k n ≡ j = cc in
        (omega arith, ap {B = ℕ} (λ (i : ℕ). get_or stages i 0) (sym m) ∙ (seek_finds stages k n h).there lt)
    go false t q = absurd cc

abbrev pub InStage : List ℕ → Option ℕ → Type 0
InStage stages o = ForSome o (λ j. (j < 208) × (get_or stages j 0 < 33))

pub some_in : (stages : List ℕ) (k n : ℕ) (o : Option ℕ) → length stages ≡ 208 → n ≤ 208 → k < 33 → o ≡ first_from stages k n → InStage stages o
some_in stages k n o long h lt e j q = let (a, b) = first_in stages k n j (omega arith) (sym e ∙ q) in (omega arith, omega arith)

-- from a node to the next
module _ (stages : List ℕ) (n : ℕ) (old new : Option ℕ) (long : length stages ≡ 208) (in_stage : InStage stages old) (is : old ≡ Some n) (next : n < 208 → get_or stages n 0 < 33 → new ≡ first_from stages (get_or stages n 0) (n + 1)) where
  pub next_in : InStage stages new
  next_in = let (lt, low) = in_stage n is in some_in stages (get_or stages n 0) (n + 1) new long (omega arith) low (next lt low)

  pub others_after : with_others stages old ≡ n ∷ with_others stages new
  others_after =
      let (lt, low) = in_stage n is in
      ap {B = List ℕ} (with_others stages) is
      ∙ ap {B = List ℕ} (λ (l : List ℕ). n ∷ l) (sym (ap {B = List ℕ} (with_others stages) (next lt low) ∙ with_others_from stages (get_or stages n 0) (n + 1) (omega arith)))
