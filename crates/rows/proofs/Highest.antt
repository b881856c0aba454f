-- The highest number by a test. Assumes nothing.
use Rattle.std.proofs.Common.{◌≡◌, ℕ, zero, suc, ◌<◌, ◌≤◌, max, Bool, true, false, cond, ◌⊎◌, List, [], ◌∷◌, ◌++◌, map, filter, sym, refl, ap, ◌∙◌, subst, ap₂, inl, inr, ⊎_elim, append-nil, unwrap_or, le_trans, le_antisymm, arith}
use Rattle.std.specs.List.{range_with_len, reduce}
use Rattle.std.proofs.lemmas.List.{map-append}
use Rattle.std.proofs.lemmas.List.Elements.{filter-append}
use Rattle.std.proofs.lemmas.List.Sums.{fold-append}
use Rattle.stages.proofs.Counts.{range_more}
use native.Mathlib.Nat.{le-max_left, le-max_right, max-le, zero-max}
use Rattle.std.proofs.lemmas.Bool.{both_ways, cases_eq, cases_lt, cond-true, or_cases, or_left, or_right, eq-eqb, eqb-true}
use Rattle.lines.specs.declared.line.Source.{Source}
use Rattle.lines.specs.declared.line.Source.TheVariants.{Field, Line as Made, Constant}
use Rattle.lines.specs.Named.{any_of}
use Rattle.lines.specs.Layout.{is_line}
use Rattle.rows.specs.Rows.{highest}
use Rattle.rows.specs.Passes.{source_top, top_of}

at_true : (b : Bool) (x y : ℕ) → (b ≡ true → x ≡ y) → cond b x 0 ≡ cond b y 0
at_true true x y h = h refl
at_true false x y h = refl

pub highest_same : (n : ℕ) (p : ℕ → Bool) (f g : ℕ → ℕ) → ((m : ℕ) → m < n → p m ≡ true → f m ≡ g m) → highest n p f ≡ highest n p g
highest_same zero p f g h = refl
highest_same (suc n) p f g h = ap₂ max (at_true (p n) (f n) (g n) (h n (omega arith))) (highest_same n p f g (λ m lt. h m (omega arith)))

pub highest_holds : (n : ℕ) (p : ℕ → Bool) (f : ℕ → ℕ) (m : ℕ) → m < n → p m ≡ true → f m ≤ highest n p f
highest_holds zero p f m lt e = absurd (omega arith)
highest_holds (suc n) p f m lt e = ⊎_elim at (λ ne. below (highest_holds n p f m (omega arith) e)) (cases_eq m n)
  where
    at : m ≡ n → f m ≤ highest (suc n) p f
    at q =
        let t = cond-true (p n) (f n) 0 (subst (λ j. p j ≡ true) q e) in
        let s = le-max_left (cond (p n) (f n) 0) (highest n p f) in
        let r = ap f q in
        omega arith

    below : f m ≤ highest n p f → f m ≤ highest (suc n) p f
    below h = let s = le-max_right (cond (p n) (f n) 0) (highest n p f) in omega arith

pub highest_least : (n : ℕ) (p : ℕ → Bool) (f : ℕ → ℕ) (b : ℕ) → ((m : ℕ) → m < n → p m ≡ true → f m ≤ b) → highest n p f ≤ b
highest_least zero p f b h = omega arith
highest_least (suc n) p f b h = max-le (one_of (p n) refl) (highest_least n p f b (λ m lt. h m (omega arith)))
  where
    one_of : (c : Bool) → p n ≡ c → cond c (f n) 0 ≤ b
    one_of true e = h n (omega arith) e
    one_of false e = omega arith

pub highest_le : (n : ℕ) (p : ℕ → Bool) (f g : ℕ → ℕ) → ((m : ℕ) → m < n → p m ≡ true → f m ≤ g m) → highest n p f ≤ highest n p g
highest_le n p f g h = highest_least n p f (highest n p g) (λ m lt e. le_trans (h m lt e) (highest_holds n p g m lt e))

-- the highest is some number's, or 0
pub highest_some : (n : ℕ) (p : ℕ → Bool) (f : ℕ → ℕ) → (highest n p f ≡ 0) ⊎ ((m : ℕ) × (m < n) × (p m ≡ true) × (f m ≡ highest n p f))
highest_some zero p f = inl refl
highest_some (suc n) p f = go (p n) refl (highest_some n p f)
  where
    go : (c : Bool) → p n ≡ c → (highest n p f ≡ 0) ⊎ ((m : ℕ) × (m < n) × (p m ≡ true) × (f m ≡ highest n p f)) → (max (cond c (f n) 0) (highest n p f) ≡ 0) ⊎ ((m : ℕ) × (m < suc n) × (p m ≡ true) × (f m ≡ max (cond c (f n) 0) (highest n p f)))
    go false e (inl z) = inl (zero-max (highest n p f) ∙ z)
    go false e (inr (m, lt, t, q)) = inr (m, omega arith, t, q ∙ sym (zero-max (highest n p f)))
    go true e (inl z) = inr (n, omega arith, e, omega arith)
    go true e (inr (m, lt, t, q)) = ⊎_elim (λ lt. inr (n, omega arith, e, omega arith)) (λ le. inr (m, omega arith, t, omega arith)) (cases_lt (highest n p f) (f n))

-- one number more
top_more : (b : Bool) (l : List ℕ) (x : ℕ) → unwrap_or (reduce max (l ++ cond b (x ∷ []) [])) 0 ≡ max (cond b x 0) (unwrap_or (reduce max l) 0)
top_more true [] x = omega arith
top_more true (y ∷ ys) x = omega (arith, fold-append max y ys (x ∷ []))
top_more false l x = omega (arith, ap (λ k. unwrap_or (reduce max k) 0) (append-nil l))

tops_more : (f : ℕ → ℕ) (b : Bool) (n : ℕ) → map f (cond b (n ∷ []) []) ≡ cond b (f n ∷ []) []
tops_more f true n = refl
tops_more f false n = refl

-- the highest f of those numbers below n that pass the test
pub highest_kept : (n : ℕ) (p : ℕ → Bool) (f : ℕ → ℕ) → unwrap_or (reduce max (map f (filter p (range_with_len 0 n)))) 0 ≡ highest n p f
highest_kept zero p f = refl
highest_kept (suc n) p f =
    ap (λ l. unwrap_or (reduce max (map f (filter p l))) 0) (range_more n)
    ∙ (ap (λ l. unwrap_or (reduce max (map f l)) 0) (filter-append p (range_with_len 0 n) (n ∷ []))
    ∙ (ap (λ l. unwrap_or (reduce max l) 0) (map-append f (filter p (range_with_len 0 n)) (cond (p n) (n ∷ []) []) ∙ ap (λ l. map f (filter p (range_with_len 0 n)) ++ l) (tops_more f (p n) n))
    ∙ (top_more (p n) (map f (filter p (range_with_len 0 n))) (f n)
    ∙ ap (λ x. max (cond (p n) (f n) 0) x) (highest_kept n p f))))

-- the highest of a list of sources
source_holds : (f : ℕ → ℕ) (x : Source) (m : ℕ) → is_line m x ≡ true → f m ≤ source_top f x
source_holds f (Field i) m e = absurd (both_ways _ refl e)
source_holds f (Made k) m e = omega (arith, ap f (eqb-true k m e))
source_holds f (Constant c) m e = absurd (both_ways _ refl e)

source_least : (f : ℕ → ℕ) (x : Source) (b : ℕ) → ((m : ℕ) → is_line m x ≡ true → f m ≤ b) → source_top f x ≤ b
source_least f (Field i) b h = omega arith
source_least f (Made k) b h = h k (eq-eqb k k refl)
source_least f (Constant c) b h = omega arith

pub top_holds : (f : ℕ → ℕ) (l : List Source) (m : ℕ) → any_of (is_line m) l ≡ true → f m ≤ top_of f l
top_holds f [] m e = absurd (both_ways _ refl e)
top_holds f (x ∷ xs) m e = ⊎_elim (λ q. le_trans (source_holds f x m q) (le-max_left (source_top f x) (top_of f xs))) (λ q. le_trans (top_holds f xs m q) (le-max_right (source_top f x) (top_of f xs))) (or_cases (is_line m x) _ e)

pub top_least : (f : ℕ → ℕ) (l : List Source) (b : ℕ) → ((m : ℕ) → any_of (is_line m) l ≡ true → f m ≤ b) → top_of f l ≤ b
top_least f [] b h = omega arith
top_least f (x ∷ xs) b h = max-le (source_least f x b (λ m q. h m (or_left (is_line m x) _ q))) (top_least f xs b (λ m q. h m (or_right (is_line m x) _ q)))

pub top_highest : (f : ℕ → ℕ) (l : List Source) (size : ℕ) → ((m : ℕ) → any_of (is_line m) l ≡ true → m < size) → top_of f l ≡ highest size (λ m. any_of (is_line m) l) f
top_highest f l size h =
    le_antisymm (top_least f l (highest size (λ m. any_of (is_line m) l) f) (λ m q. highest_holds size (λ m. any_of (is_line m) l) f m (h m q) q)) (highest_least size (λ m. any_of (is_line m) l) f (top_of f l) (λ m lt q. top_holds f l m q))
