-- Tests that hold nowhere, and tables that hold one value. Assumes nothing.
use Rattle.std.proofs.Common.{◌≡◌, ℕ, zero, suc, ◌<◌, Bool, false, ◌||◌, get_or, replicate, refl, ap₂, arith}
use Rattle.graph.specs.Rounds.{some_below}

pub some_none : (n : ℕ) (p : ℕ → Bool) → ((k : ℕ) → k < n → p k ≡ false) → some_below n p ≡ false
some_none zero p h = refl
some_none (suc n) p h = ap₂ ◌||◌ (h n (omega arith)) (some_none n p (λ k lt. h k (omega arith)))

pub get_or_all : {X : Type 0} (m n : ℕ) (x : X) → get_or (replicate m x) n x ≡ x
get_or_all zero n x = refl
get_or_all (suc m) zero x = refl
get_or_all (suc m) (suc n) x = get_or_all m n x
