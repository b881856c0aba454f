-- Seeking from one number on. Assumes nothing.
use Rattle.std.proofs.Common.{◌≡◌, ℕ, zero, suc, ◌+◌, ◌-◌, ◌<◌, ◌≤◌, Bool, true, false, cond, eqb, ltb, ◌⊎◌, List, [], ◌∷◌, length, get_or, drop, set, Some, None, Option, sym, refl, ap, ◌∙◌, subst, inl, inr, unwrap_or, add-one, arith, length-set, drop-cons, get_or-set_other, get_or-set_same, ltb-false}
use Rattle.std.proofs.lemmas.Bool.{cases_eq, cond-true, cond-false, eq-eqb, ne_eqb, lt-ltb, le-ltb}
use Rattle.schedule.specs.Seek.{seek, seek_from, first_from, Sought, SeekFinds, FirstTells}

drop_end : (xs : List ℕ) (n : ℕ) → length xs ≤ n → drop n xs ≡ []
drop_end [] zero h = refl
drop_end [] (suc n) h = refl
drop_end (x ∷ xs) zero h = absurd (omega arith)
drop_end (x ∷ xs) (suc n) h = drop_end xs n (omega arith)

pub seek_end : (stages : List ℕ) (k n : ℕ) → length stages ≤ n → seek stages k n ≡ n
seek_end stages k n h = ap {B = ℕ} (seek_from k n) (drop_end stages n h)

-- one number on
seek_step : (stages : List ℕ) (k n : ℕ) → n < length stages → seek stages k n ≡ cond (eqb (get_or stages n 0) k) n (seek stages k (n + 1))
seek_step stages k n h =
    ap {B = ℕ} (seek_from k n) (drop-cons stages n 0 h) ∙ ap {B = ℕ} (λ (j : ℕ). cond (eqb (get_or stages n 0) k) n (seek_from k (n + 1) (drop j stages))) (sym (add-one n))

pub seek_here : (stages : List ℕ) (k n : ℕ) → n < length stages → get_or stages n 0 ≡ k → seek stages k n ≡ n
seek_here stages k n h e = seek_step stages k n h ∙ rw (eq-eqb (get_or stages n 0) k e) refl

pub seek_on : (stages : List ℕ) (k n : ℕ) → n < length stages → (get_or stages n 0 ≡ k → ⊥) → seek stages k n ≡ seek stages k (n + 1)
seek_on stages k n h ne = seek_step stages k n h ∙ rw (ne_eqb (get_or stages n 0) k ne) refl

found_more : (stages : List ℕ) (k n : ℕ) → n < length stages → Sought stages k (n + 1) (seek stages k (n + 1)) → (get_or stages n 0 ≡ k) ⊎ (get_or stages n 0 ≡ k → ⊥) → Sought stages k n (seek stages k n)
found_more stages k n h s (inl e) =
    rw (seek_here stages k n h e) (record { from = omega arith; within = omega arith; there = λ _. e; between = λ m a b. absurd (omega arith) })
found_more stages k n h s (inr ne) =
    rw (seek_on stages k n h ne) (record { from = omega (arith, s.from); within = s.within; there = s.there; between = λ m a b. before m a b (cases_eq m n) })
  where
    before : (m : ℕ) → n ≤ m → m < seek stages k (n + 1) → (m ≡ n) ⊎ (m ≡ n → ⊥) → get_or stages m 0 ≡ k → ⊥
    before m a b (inl q) e = ne (ap {B = ℕ} (λ (i : ℕ). get_or stages i 0) (sym q) ∙ e)
    before m a b (inr q) e = s.between m (omega arith) b e

-- with `left` numbers to go
found_after : (left : ℕ) (stages : List ℕ) (k n : ℕ) → n + left ≡ length stages → Sought stages k n (seek stages k n)
found_after zero stages k n h =
    rw (seek_end stages k n (omega arith)) (record { from = omega arith; within = omega arith; there = λ lt. absurd (omega arith); between = λ m a b. absurd (omega arith) })
found_after (suc left) stages k n h = found_more stages k n (omega arith) (found_after left stages k (n + 1) (omega arith)) (cases_eq (get_or stages n 0) k)

pub seek_finds : SeekFinds
seek_finds stages k n h = found_after (length stages - n) stages k n (omega arith)

-- a number where it is below the end
abbrev below : ℕ → ℕ → Option ℕ
below end m = cond (ltb m end) (Some m) None

pub first_end : (stages : List ℕ) (k n : ℕ) → length stages ≤ n → first_from stages k n ≡ None
first_end stages k n h =
    ap {B = Option ℕ} (below (length stages)) (seek_end stages k n h) ∙ cond-false (ltb n (length stages)) (Some n) None (le-ltb n (length stages) h)

pub first_here : (stages : List ℕ) (k n : ℕ) → n < length stages → get_or stages n 0 ≡ k → first_from stages k n ≡ Some n
first_here stages k n h e =
    ap {B = Option ℕ} (below (length stages)) (seek_here stages k n h e) ∙ cond-true (ltb n (length stages)) (Some n) None (lt-ltb n (length stages) h)

pub first_on : (stages : List ℕ) (k n : ℕ) → n < length stages → (get_or stages n 0 ≡ k → ⊥) → first_from stages k n ≡ first_from stages k (n + 1)
first_on stages k n h ne = ap {B = Option ℕ} (below (length stages)) (seek_on stages k n h ne)

-- so it tells what is sought
below_or : (b : Bool) (end m : ℕ) → ltb m end ≡ b → m ≤ end → unwrap_or (cond b (Some m) None) end ≡ m
below_or true end m e h = refl
below_or false end m e h = let g = ltb-false m end e in omega arith

pub first_tells : FirstTells
first_tells stages k n h = below_or (ltb (seek stages k n) (length stages)) (length stages) (seek stages k n) refl (seek_finds stages k n h).within

-- A sweep from the last number down: the nodes from n on are threaded.
pub record Threaded (stages : List ℕ) (first next : List (Option ℕ)) (n : ℕ) : Type 0 where
  pub first_long : length first ≡ 33
  pub next_long : length next ≡ 208
  pub firsts : (k : ℕ) → k < 33 → get_or first k None ≡ first_from stages k n
  pub nexts : (m : ℕ) → n ≤ m → m < 208 → get_or stages m 0 < 33 → get_or next m None ≡ first_from stages (get_or stages m 0) (m + 1)

pub thread_none : (stages : List ℕ) (first next : List (Option ℕ)) → length stages ≡ 208 → length first ≡ 33 → length next ≡ 208 → ((k : ℕ) → k < 33 → get_or first k None ≡ None) → Threaded stages first next 208
thread_none stages first next h a b e =
    record { first_long = a; next_long = b; firsts = λ k lt. e k lt ∙ sym (first_end stages k 208 (omega arith)); nexts = λ m c d. absurd (omega arith) }

-- the node at n goes in front of the others of its stage
pub thread_more : (stages : List ℕ) (first next first' next' : List (Option ℕ)) (n j : ℕ) → length stages ≡ 208 → j < 208 → n ≡ j + 1 → Threaded stages first next n → next' ≡ set next j (get_or first (get_or stages j 0) None) → first' ≡ set first (get_or stages j 0) (Some j) → Threaded stages first' next' j
thread_more stages first next first' next' n j long lt en t eₙ e₁ =
    record {
      first_long = ap length e₁ ∙ length-set first k (Some j) ∙ t.first_long;
      next_long = ap length eₙ ∙ length-set next j (get_or first k None) ∙ t.next_long;
      firsts = λ i h. ap {B = Option ℕ} (λ (l : List (Option ℕ)). get_or l i None) e₁ ∙ front i h (cases_eq i k);
      nexts = λ m a b c. ap {B = Option ℕ} (λ (l : List (Option ℕ)). get_or l m None) eₙ ∙ after m a b c (cases_eq m j);
    }
  where
    k : ℕ
    k = get_or stages j 0

    front : (i : ℕ) → i < 33 → (i ≡ k) ⊎ (i ≡ k → ⊥) → get_or (set first k (Some j)) i None ≡ first_from stages i j
    front i h (inl e) =
        rw e (get_or-set_same first k (Some j) None (omega (arith, t.first_long)) ∙ sym (first_here stages k j (omega arith) refl))
    front i h (inr ne) =
        get_or-set_other first k i (Some j) None ne ∙ t.firsts i h ∙ ap {B = Option ℕ} (first_from stages i) en ∙ sym (first_on stages i j (omega arith) (λ q. ne (sym q)))

    after : (m : ℕ) → j ≤ m → m < 208 → get_or stages m 0 < 33 → (m ≡ j) ⊎ (m ≡ j → ⊥) → get_or (set next j (get_or first k None)) m None ≡ first_from stages (get_or stages m 0) (m + 1)
    after m a b c (inl e) =
        ap {B = Option ℕ} (λ (i : ℕ). get_or (set next j (get_or first k None)) i None) e
        ∙ get_or-set_same next j (get_or first k None) None (omega (arith, t.next_long))
        ∙ t.firsts k (subst (λ (i : ℕ). get_or stages i 0 < 33) e c)
        ∙ ap {B = Option ℕ} (first_from stages k) en
        ∙ ap {B = Option ℕ} (λ (i : ℕ). first_from stages (get_or stages i 0) (i + 1)) (sym e)
    after m a b c (inr ne) = get_or-set_other next j m (get_or first k None) None ne ∙ t.nexts m (omega arith) b c
