-- The stages that rows take. Assumes nothing.
use Rattle.std.proofs.Common.{◌≡◌, ℕ, zero, suc, ◌+◌, ◌-◌, ◌*◌, ◌/◌, ◌%◌, ◌<◌, ◌≤◌, min, max, Bool, true, false, cond, ◌&&◌, eqb, ltb, is_some, Some, None, Option, refl, ap, subst, ⊎_elim, div-lt_iff_lt-mul, add-mul, one-mul, le-div_iff_mul-le, le-mul_of_pos_right, div-mul-le_self, arith}
use native.Mathlib.Nat.{max-le, le-max_left, le-max_right}
use Rattle.std.proofs.lemmas.Bool.{false≢true, cases_Bool, cases_eq, cond-true, and_parts, and_from, and_right, eqb-true, ne_eqb, ltb-true, lt-ltb}
use Rattle.std.proofs.lemmas.Grind.{div_ceil_times}
use Rattle.stages.specs.declared.node.Node.{Node}
use Rattle.stages.specs.declared.node.Slot.{Slot}
use Rattle.stages.specs.declared.node.Slot.TheVariants.{Stateless, Stateful}
use Rattle.stages.specs.declared.node.Nodes.{Nodes}
use Rattle.stages.specs.Filling.{tally, highest, ceiling, takes, node_at, is_node, row_of, in_row, width, below}
use Rattle.stages.proofs.Counts.{tally_le, tally_none, tally_most, tally_apart}

-- a share of a room is full before it is rounded up
pub ceiling_room : (i m room : ℕ) → 1 ≤ room → i < m → i / room < ceiling m room
ceiling_room i m room pos lt =
    let s = add-mul (i / room) 1 room in
    let o = one-mul room in
    let d = div-mul-le_self i room in
    let small : (i / room + 1) * room ≤ m + (room - 1) = omega arith in
    let t = (le-div_iff_mul-le {k = room} {x = i / room + 1} {y = m + (room - 1)} (omega arith)).1 small in
    omega arith

-- rounded up, as it is worked out
pub ceiling_is : (m room : ℕ) → 1 ≤ room → m / room + min 1 (m % room) ≡ ceiling m room
ceiling_is m room pos =
    let q : ℕ = m / room + min 1 (m % room) in
    let t = div_ceil_times m room pos in
    let s = add-mul q 1 room in
    let o = one-mul room in
    let small : q * room ≤ m + (room - 1) = omega arith in
    let large : m + (room - 1) < (q + 1) * room = omega arith in
    let a = (le-div_iff_mul-le {k = room} {x = q} {y = m + (room - 1)} (omega arith)).1 small in
    let b = (div-lt_iff_lt-mul {k = room} {x = m + (room - 1)} {y = q + 1} (omega arith)).1 large in
    omega arith

-- no more stages than what fills them
pub ceiling_most : (m room : ℕ) → 1 ≤ room → ceiling m room ≤ m
ceiling_most m room pos =
    let s = add-mul m 1 room in
    let o = one-mul room in
    let k = le-mul_of_pos_right {m = room} m (omega arith) in
    let small : m + (room - 1) < (m + 1) * room = omega arith in
    let t = (div-lt_iff_lt-mul {k = room} {x = m + (room - 1)} {y = m + 1} (omega arith)).1 small in
    omega arith

pub takes_node : (slot : Slot) (o : Option Node) → takes slot o ≡ true → is_some o ≡ true
takes_node slot None e = absurd (false≢true e)
takes_node slot (Some v) e = refl

-- the nodes of row r, and of the rows below it
abbrev pub standing : Nodes → ℕ → ℕ → Bool
standing x r k = is_node x k && eqb (row_of x k) r

abbrev pub lowly : Nodes → ℕ → ℕ → Bool
lowly x r k = is_node x k && ltb (row_of x k) r

pub below_zero : (x : Nodes) (P Q : ℕ) → below x P Q 0 ≡ 0
unfolding below
below_zero x P Q = refl

pub below_suc : (x : Nodes) (P Q r : ℕ) → below x P Q (suc r) ≡ below x P Q r + width x P Q r
unfolding below
below_suc x P Q r = refl

pub highest_suc : (n : ℕ) (p : ℕ → Bool) (f : ℕ → ℕ) → highest (suc n) p f ≡ max (cond (p n) (f n) 0) (highest n p f)
unfolding highest
highest_suc n p f = refl

pub highest_zero : (p : ℕ → Bool) (f : ℕ → ℕ) → highest 0 p f ≡ 0
unfolding highest
highest_zero p f = refl

pub highest_holds : (n : ℕ) (p : ℕ → Bool) (f : ℕ → ℕ) (m : ℕ) → m < n → p m ≡ true → f m ≤ highest n p f
highest_holds zero p f m lt e = absurd (omega arith)
highest_holds (suc n) p f m lt e = ⊎_elim at (λ ne. past (highest_holds n p f m (omega arith) e)) (cases_eq m n)
  where
    at : m ≡ n → f m ≤ highest (suc n) p f
    at q =
        let u = highest_suc n p f in
        let t = cond-true (p n) (f n) 0 (subst (λ j. p j ≡ true) q e) in
        let s = le-max_left (cond (p n) (f n) 0) (highest n p f) in
        let r = ap f q in
        omega arith

    past : f m ≤ highest n p f → f m ≤ highest (suc n) p f
    past h = let u = highest_suc n p f in let s = le-max_right (cond (p n) (f n) 0) (highest n p f) in omega arith

pub highest_within : (n : ℕ) (p : ℕ → Bool) (f : ℕ → ℕ) (b : ℕ) → ((k : ℕ) → k < n → p k ≡ true → f k ≤ b) → highest n p f ≤ b
highest_within zero p f b h = let u = highest_zero p f in omega arith
highest_within (suc n) p f b h = rw (highest_suc n p f) (max-le (at (p n) refl) (highest_within n p f b (λ k lt. h k (omega arith))))
  where
    at : (t : Bool) → p n ≡ t → cond t (f n) 0 ≤ b
    at true e = h n (omega arith) e
    at false e = omega arith

module _ (x : Nodes) (P Q : ℕ) (posP : 1 ≤ P) (posQ : 1 ≤ Q) where
  pub width_most : (r : ℕ) → width x P Q r ≤ tally 208 (standing x r)
  width_most r = max-le (each Stateless P posP) (each Stateful Q posQ)
    where
      each : (slot : Slot) (room : ℕ) → 1 ≤ room → ceiling (tally 208 (in_row x slot r)) room ≤ tally 208 (standing x r)
      each slot room pos =
          let a = ceiling_most (tally 208 (in_row x slot r)) room pos in
          let b = tally_le 208 (in_row x slot r) (standing x r) (λ k _ e. let (t, q) = and_parts (takes slot (node_at x k)) _ e in and_from _ _ (takes_node slot (node_at x k) t) q) in
          omega arith

  -- a row without nodes takes no stage
  pub width_none : (r : ℕ) → ((k : ℕ) → k < 208 → is_node x k ≡ true → row_of x k ≡ r → ⊥) → width x P Q r ≡ 0
  width_none r h =
      let a = width_most r in
      let b = tally_none 208 (standing x r) (λ k lt. ⊎_elim (λ e. and_right (is_node x k) _ (ne_eqb _ _ (h k lt e))) (λ e. ap (λ t. t && eqb (row_of x k) r) e) (cases_Bool (is_node x k))) in
      omega arith

  pub below_most : (r : ℕ) → below x P Q r ≤ tally 208 (lowly x r)
  below_most zero = let u = below_zero x P Q in omega arith
  below_most (suc r) =
      let u = below_suc x P Q r in
      let h = below_most r in
      let w = width_most r in
      let t = tally_apart 208 (lowly x r) (standing x r) (lowly x (suc r))
      (λ k e. let (a, b) = and_parts (is_node x k) _ e in let lt = ltb-true (row_of x k) r b in and_right (is_node x k) _ (ne_eqb _ _ (λ q. omega arith)))
      (λ k e. let (a, b) = and_parts (is_node x k) _ e in let lt = ltb-true (row_of x k) r b in and_from _ _ a (lt-ltb _ _ (omega arith)))
      (λ k e. let (a, b) = and_parts (is_node x k) _ e in let q = eqb-true (row_of x k) r b in and_from _ _ a (lt-ltb _ _ (omega arith))) in
      omega arith

  pub below_few : (r : ℕ) → below x P Q r ≤ 208
  below_few r = let a = below_most r in let b = tally_most 208 (lowly x r) in omega arith

  -- rows without nodes between two rows take no stage
  pub below_skip : (r q : ℕ) → r ≤ q → ((k : ℕ) → k < 208 → is_node x k ≡ true → r ≤ row_of x k → q ≤ row_of x k) → below x P Q r ≡ below x P Q q
  below_skip r zero h gap = ap (below x P Q) (omega arith)
  below_skip r (suc q) h gap = ⊎_elim (λ e. ap (below x P Q) e) (λ ne. past (omega arith) (below_skip r q (omega arith) (λ k lt e le. let g = gap k lt e le in omega arith))) (cases_eq r (suc q))
    where
      past : r ≤ q → below x P Q r ≡ below x P Q q → below x P Q r ≡ below x P Q (suc q)
      past le s =
          let u = below_suc x P Q q in
          let w = width_none q (λ k lt e a. let g = gap k lt e (omega arith) in omega arith) in
          omega arith

pub below_mono : (x : Nodes) (P Q r q : ℕ) → r ≤ q → below x P Q r ≤ below x P Q q
below_mono x P Q r zero h = let e : r ≡ 0 = omega arith in let t = ap (below x P Q) e in omega arith
below_mono x P Q r (suc q) h =
    ⊎_elim (λ e. let t = ap (below x P Q) e in omega arith) (λ ne. let t = below_mono x P Q r q (omega arith) in let u = below_suc x P Q q in omega arith) (cases_eq r (suc q))
