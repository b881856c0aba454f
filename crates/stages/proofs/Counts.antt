-- Counting the numbers below n that pass a test. Assumes nothing.
use Rattle.std.proofs.Common.{◌≡◌, ℕ, zero, suc, ◌+◌, ◌<◌, ◌≤◌, Bool, true, false, cond, ◌&&◌, ltb, ◌⊎◌, [], ◌∷◌, ◌++◌, length, filter, sym, refl, ap, ◌∙◌, subst, inl, inr, ⊎_elim, map-id, add-one, arith, length-append}
use Rattle.std.specs.List.{range_with_len}
use Rattle.std.proofs.lemmas.List.Elements.{filter-append}
use Rattle.std.proofs.lemmas.List.FromFn.{map-range_with_len_more}
use Rattle.std.proofs.lemmas.Bool.{both_ways, cases_eq, lt-ltb, le-ltb}
use Rattle.stages.specs.Filling.{one, tally}

one_most : (b : Bool) → one b ≤ 1
one_most true = omega arith
one_most false = omega arith

one_le : (a b : Bool) → (a ≡ true → b ≡ true) → one a ≤ one b
one_le true true h = omega arith
one_le true false h = absurd (both_ways false refl (h refl))
one_le false true h = omega arith
one_le false false h = omega arith

-- at most one of two, where they exclude each other, and only where a third holds
one_apart : (a b c : Bool) → (a ≡ true → b ≡ false) → (a ≡ true → c ≡ true) → (b ≡ true → c ≡ true) → one a + one b ≤ one c
one_apart true true c h f g = absurd (both_ways true (h refl) refl)
one_apart true false c h f g = let s = ap one (f refl) in omega arith
one_apart false b c h f g = let s = one_le b c g in omega arith

-- none below 0, and one number more
pub tally_start : (p : ℕ → Bool) → tally 0 p ≡ 0
unfolding tally
tally_start p = refl

pub tally_suc : (n : ℕ) (p : ℕ → Bool) → tally (suc n) p ≡ one (p n) + tally n p
unfolding tally
tally_suc n p = refl

pub tally_most : (n : ℕ) (p : ℕ → Bool) → tally n p ≤ n
tally_most zero p = let u = tally_start p in omega arith
tally_most (suc n) p = let h = tally_most n p in let t = one_most (p n) in let u = tally_suc n p in omega arith

pub tally_le : (n : ℕ) (p q : ℕ → Bool) → ((k : ℕ) → k < n → p k ≡ true → q k ≡ true) → tally n p ≤ tally n q
tally_le zero p q h = let u = tally_start p in omega arith
tally_le (suc n) p q h =
    let t = tally_le n p q (λ k lt. h k (omega arith)) in
    let s = one_le (p n) (q n) (h n (omega arith)) in
    let u = tally_suc n p in
    let v = tally_suc n q in
    omega arith

-- one more passes
pub tally_lt : (n : ℕ) (p q : ℕ → Bool) (j : ℕ) → ((k : ℕ) → k < n → p k ≡ true → q k ≡ true) → j < n → p j ≡ false → q j ≡ true → tally n p < tally n q
tally_lt zero p q j h lt off on = absurd (omega arith)
tally_lt (suc n) p q j h lt off on = ⊎_elim at (λ ne. past (tally_lt n p q j (λ k lt. h k (omega arith)) (omega arith) off on)) (cases_eq j n)
  where
    at : j ≡ n → tally (suc n) p < tally (suc n) q
    at e =
        let t = tally_le n p q (λ k lt. h k (omega arith)) in
        let a = ap one (subst (λ m. p m ≡ false) e off) in
        let b = ap one (subst (λ m. q m ≡ true) e on) in
        let u = tally_suc n p in
        let v = tally_suc n q in
        omega arith

    past : tally n p < tally n q → tally (suc n) p < tally (suc n) q
    past t =
        let s = one_le (p n) (q n) (h n (omega arith)) in
        let u = tally_suc n p in
        let v = tally_suc n q in
        omega arith

pub tally_same : (n : ℕ) (p q : ℕ → Bool) → ((k : ℕ) → k < n → p k ≡ q k) → tally n p ≡ tally n q
tally_same zero p q h = tally_start p ∙ sym (tally_start q)
tally_same (suc n) p q h =
    let t = tally_same n p q (λ k lt. h k (omega arith)) in
    let s = ap one (h n (omega arith)) in
    let u = tally_suc n p in
    let v = tally_suc n q in
    omega arith

pub tally_none : (n : ℕ) (p : ℕ → Bool) → ((k : ℕ) → k < n → p k ≡ false) → tally n p ≡ 0
tally_none zero p h = tally_start p
tally_none (suc n) p h = let s = ap one (h n (omega arith)) in let t = tally_none n p (λ k lt. h k (omega arith)) in let u = tally_suc n p in omega arith

-- none passes, or some number
pub tally_some : (n : ℕ) (p : ℕ → Bool) → (tally n p ≡ 0) ⊎ ((k : ℕ) × (k < n) × (p k ≡ true))
tally_some zero p = inl (tally_start p)
tally_some (suc n) p = go (p n) refl (tally_some n p)
  where
    go : (b : Bool) → p n ≡ b → (tally n p ≡ 0) ⊎ ((k : ℕ) × (k < n) × (p k ≡ true)) → (tally (suc n) p ≡ 0) ⊎ ((k : ℕ) × (k < suc n) × (p k ≡ true))
    go true e h = inr (n, omega arith, e)
    go false e (inl z) = let s = ap one e in let u = tally_suc n p in inl (omega arith)
    go false e (inr (k, lt, on)) = inr (k, omega arith, on)

-- what passes one of two tests that exclude each other passes the third
pub tally_apart : (n : ℕ) (p q s : ℕ → Bool) → ((k : ℕ) → p k ≡ true → q k ≡ false) → ((k : ℕ) → p k ≡ true → s k ≡ true) → ((k : ℕ) → q k ≡ true → s k ≡ true) → tally n p + tally n q ≤ tally n s
tally_apart zero p q s h f g = let u = tally_start p in let v = tally_start q in omega arith
tally_apart (suc n) p q s h f g =
    let t = tally_apart n p q s h f g in
    let o = one_apart (p n) (q n) (s n) (h n) (f n) (g n) in
    let u = tally_suc n p in
    let v = tally_suc n q in
    let w = tally_suc n s in
    omega arith

-- of those below n that pass, fewer stand below one of them
pub tally_more : (n j : ℕ) (p : ℕ → Bool) → j < n → p j ≡ true → tally j p < tally n p
tally_more zero j p lt e = absurd (omega arith)
tally_more (suc n) j p lt e = ⊎_elim at (λ ne. let t = tally_more n j p (omega arith) e in let u = tally_suc n p in omega arith) (cases_eq j n)
  where
    at : j ≡ n → tally j p < tally (suc n) p
    at q = let s = ap one (subst (λ i. p i ≡ true) q e) in let t = ap (λ i. tally i p) q in let u = tally_suc n p in omega arith

-- a bound on the numbers below a bound
pub tally_bound : (n b : ℕ) (p : ℕ → Bool) → b ≤ n → tally n (λ m. ltb m b && p m) ≡ tally b p
tally_bound zero b p h = tally_start (λ m. ltb m b && p m) ∙ sym (ap (λ i. tally i p) (zero_is b h) ∙ tally_start p)
  where
    zero_is : (b : ℕ) → b ≤ 0 → b ≡ 0
    zero_is b h = omega arith
tally_bound (suc n) b p h = ⊎_elim at (λ ne. past (omega arith) (tally_bound n b p (omega arith))) (cases_eq b (suc n))
  where
    at : b ≡ suc n → tally (suc n) (λ m. ltb m b && p m) ≡ tally b p
    at e =
        tally_same (suc n) (λ m. ltb m b && p m) p (λ k lt. ap (λ t. t && p k) (lt-ltb k b (omega arith))) ∙ ap (λ i. tally i p) (sym e)

    past : b ≤ n → tally n (λ m. ltb m b && p m) ≡ tally b p → tally (suc n) (λ m. ltb m b && p m) ≡ tally b p
    past le t =
        let u = tally_suc n (λ m. ltb m b && p m) in
        let s = ap one (ap (λ t. t && p n) (le-ltb n b le)) in
        omega arith

-- the same numbers as a list, and how many of them are kept
pub range_more : (n : ℕ) → range_with_len 0 (suc n) ≡ range_with_len 0 n ++ n ∷ []
range_more n = ap (range_with_len 0) (sym (add-one n)) ∙ (sym (map-id (range_with_len 0 (n + 1))) ∙ map-range_with_len_more (λ x. x) 0 n n (omega arith) ∙ ap (λ l. l ++ n ∷ []) (map-id (range_with_len 0 n)))

kept_more : (b : Bool) (n : ℕ) → length (cond b (n ∷ []) []) ≡ one b
kept_more true n = refl
kept_more false n = refl

pub tally_kept : (n : ℕ) (p : ℕ → Bool) → length (filter p (range_with_len 0 n)) ≡ tally n p
tally_kept zero p = sym (tally_start p)
tally_kept (suc n) p =
    let e = ap (λ l. length (filter p l)) (range_more n) in
    let f = ap length (filter-append p (range_with_len 0 n) (n ∷ [])) in
    let g = length-append (filter p (range_with_len 0 n)) (filter p (n ∷ [])) in
    let h = kept_more (p n) n in
    let t = tally_kept n p in
    let u = tally_suc n p in
    omega arith

pub tally_all : (n : ℕ) (p : ℕ → Bool) → tally n (λ m. ltb m n && p m) ≡ tally n p
tally_all n p = tally_bound n n p (omega arith)
