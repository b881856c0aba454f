-- That each marked line reads only lines before it, line by line. Assumes nothing.
use Rattle.std.proofs.Common.{◌≡◌, ℕ, zero, suc, ◌+◌, Bool, true, false, List, [], ◌∷◌, get_or, refl, subst, arith}
use Rattle.std.proofs.lemmas.Bool.{and_parts, and_from, false≢true}
use Rattle.lines.specs.declared.line.Line.{Line}
use Rattle.lines.specs.declared.line.Line.TheVariants.{Read}
use Rattle.lines.specs.Layout.{sources_of}
use Rattle.resolving.specs.Reads.{are_before, lower_from}

pub lower_at : (k : ℕ) (ls : List Line) (marks : List Bool) (n : ℕ) → lower_from k ls marks ≡ true → get_or marks n false ≡ true → are_before (k + n) (sources_of (get_or ls n (Read 0))) ≡ true
lower_at k [] marks n h i = refl
lower_at k (l ∷ ls) [] n h i = absurd (false≢true i)
lower_at k (l ∷ ls) (true ∷ marks) zero h i =
    let e : k ≡ k + 0 = omega arith in
    subst (λ m. are_before m (sources_of l) ≡ true) e (and_parts _ _ h).0
lower_at k (l ∷ ls) (true ∷ marks) (suc n) h i =
    let e : suc k + n ≡ k + suc n = omega arith in
    subst (λ m. are_before m (sources_of (get_or ls n (Read 0))) ≡ true) e (lower_at (suc k) ls marks n (and_parts _ _ h).1 i)
lower_at k (l ∷ ls) (false ∷ marks) zero h i = absurd (false≢true i)
lower_at k (l ∷ ls) (false ∷ marks) (suc n) h i =
    let e : suc k + n ≡ k + suc n = omega arith in
    subst (λ m. are_before m (sources_of (get_or ls n (Read 0))) ≡ true) e (lower_at (suc k) ls marks n h i)

pub lower_from_lem : (k : ℕ) (ls : List Line) (marks : List Bool) → ((n : ℕ) → get_or marks n false ≡ true → are_before (k + n) (sources_of (get_or ls n (Read 0))) ≡ true) → lower_from k ls marks ≡ true
lower_from_lem k [] marks h = refl
lower_from_lem k (l ∷ ls) [] h = refl
lower_from_lem k (l ∷ ls) (true ∷ marks) h =
    let e : k + 0 ≡ k = omega arith in
    and_from _ _ (subst (λ m. are_before m (sources_of l) ≡ true) e (h 0 refl))
    (lower_from_lem (suc k) ls marks (λ n i. let e₂ : k + suc n ≡ suc k + n = omega arith in subst (λ m. are_before m (sources_of (get_or ls n (Read 0))) ≡ true) e₂ (h (suc n) i)))
lower_from_lem k (l ∷ ls) (false ∷ marks) h =
    lower_from_lem (suc k) ls marks (λ n i. let e : k + suc n ≡ suc k + n = omega arith in subst (λ m. are_before m (sources_of (get_or ls n (Read 0))) ≡ true) e (h (suc n) i))
