-- The next row that has a node. Assumes nothing.
use Rattle.std.proofs.Common.{◌≡◌, ℕ, zero, suc, ◌<◌, ◌≤◌, min, Bool, true, false, cond, List, [], ◌∷◌, ◌++◌, map, filter, Some, None, Option, sym, refl, ap, ◌∙◌, subst, ⊎_elim, append-nil, arith}
use Rattle.std.specs.List.{range_with_len, reduce}
use Rattle.std.proofs.lemmas.List.{map-append}
use Rattle.std.proofs.lemmas.List.Elements.{filter-append}
use Rattle.std.proofs.lemmas.List.Sums.{fold-append}
use native.Mathlib.Nat.{min-le_left, min-le_right, min-eq_left, min-eq_right}
use Rattle.std.proofs.lemmas.Bool.{both_ways, cases_eq, cases_lt}
use Rattle.stages.specs.declared.node.Nodes.{Nodes}
use Rattle.stages.specs.Filling.{row_of}
use Rattle.stages.specs.Rows.{lower, comes_after, next_row}
use Rattle.stages.proofs.Counts.{range_more}

-- one row more
lower_more : (b : Bool) (l : List ℕ) (r : ℕ) → reduce min (l ++ cond b (r ∷ []) []) ≡ cond b (Some (lower (reduce min l) r)) (reduce min l)
lower_more true [] r = refl
lower_more true (x ∷ xs) r = ap Some (fold-append min x xs (r ∷ []))
lower_more false l r = ap (reduce min) (append-nil l)

rows_more : (x : Nodes) (b : Bool) (n : ℕ) → map (row_of x) (cond b (n ∷ []) []) ≡ cond b (row_of x n ∷ []) []
rows_more x true n = refl
rows_more x false n = refl

-- the lowest row of those nodes before n that come after
pub next_kept : (x : Nodes) (prior : Option ℕ) (n : ℕ) → reduce min (map (row_of x) (filter (comes_after x prior) (range_with_len 0 n))) ≡ next_row x prior n
unfolding next_row
next_kept x prior zero = refl
next_kept x prior (suc n) =
    ap (λ l. reduce min (map (row_of x) (filter (comes_after x prior) l))) (range_more n)
    ∙ ap (λ l. reduce min (map (row_of x) l)) (filter-append (comes_after x prior) (range_with_len 0 n) (n ∷ []))
    ∙ ap (reduce min) (map-append (row_of x) (filter (comes_after x prior) (range_with_len 0 n)) (cond (comes_after x prior n) (n ∷ []) []) ∙ ap (λ l. map (row_of x) (filter (comes_after x prior) (range_with_len 0 n)) ++ l) (rows_more x (comes_after x prior n) n))
    ∙ lower_more (comes_after x prior n) (map (row_of x) (filter (comes_after x prior) (range_with_len 0 n))) (row_of x n)
    ∙ ap (λ o. cond (comes_after x prior n) (Some (lower o (row_of x n))) o) (next_kept x prior n)

-- the lowest row above the given one among the nodes before n
abbrev pub Least : Nodes → Option ℕ → ℕ → Option ℕ → Type 0
Least x prior n None = (k : ℕ) → k < n → comes_after x prior k ≡ false
Least x prior n (Some r) = ((k : ℕ) × (k < n) × (comes_after x prior k ≡ true) × (row_of x k ≡ r)) × ((k : ℕ) → k < n → comes_after x prior k ≡ true → r ≤ row_of x k)

least_more : (x : Nodes) (prior : Option ℕ) (n : ℕ) (b : Bool) (o : Option ℕ) → comes_after x prior n ≡ b → Least x prior n o → Least x prior (suc n) (cond b (Some (lower o (row_of x n))) o)
least_more x prior n false None e h =
    λ k lt. ⊎_elim (λ q. subst (λ i. comes_after x prior i ≡ false) (sym q) e) (λ ne. h k (omega arith)) (cases_eq k n)
least_more x prior n false (Some r) e ((j, lt, on, is), low) =
    ((j, omega arith, on, is), λ k hk t. ⊎_elim (λ q. absurd (both_ways _ (subst (λ i. comes_after x prior i ≡ false) (sym q) e) t)) (λ ne. low k (omega arith) t) (cases_eq k n))
least_more x prior n true None e h =
    ((n, omega arith, e, refl), λ k hk t. ⊎_elim (λ q. let s = ap (row_of x) q in omega arith) (λ ne. absurd (both_ways _ (h k (omega arith)) t)) (cases_eq k n))
least_more x prior n true (Some r) e ((j, lt, on, is), low) = (
  ⊎_elim (λ le. (j, omega arith, on, is ∙ sym (min-eq_left {n = r} {m = row_of x n} (omega arith)))) (λ le. (n, omega arith, e, sym (min-eq_right {n = row_of x n} {m = r} le))) (cases_lt r (row_of x n)),
  λ k hk t. ⊎_elim (λ q. let s = ap (row_of x) q in let m = min-le_right r (row_of x n) in omega arith) (λ ne. let s = low k (omega arith) t in let m = min-le_left r (row_of x n) in omega arith) (cases_eq k n),
)

pub least : (x : Nodes) (prior : Option ℕ) (n : ℕ) → Least x prior n (next_row x prior n)
unfolding next_row
least x prior zero = λ k lt. absurd (omega arith)
least x prior (suc n) = least_more x prior n (comes_after x prior n) (next_row x prior n) refl (least x prior n)
