-- A loop that writes a table at the places that pass a test. Assumes nothing.
use Rattle.std.proofs.Common.{◌≡◌, ℕ, ◌<◌, ◌≤◌, Bool, cond, List, get_or}

-- the places below n that pass the test are as f says, all others as they were
abbrev pub Filled : (ℕ → Bool) → (ℕ → ℕ) → List ℕ → List ℕ → ℕ → Type 0
Filled p f old l n = ((k : ℕ) → k < n → get_or l k 0 ≡ cond (p k) (f k) (get_or old k 0)) × ((k : ℕ) → n ≤ k → get_or l k 0 ≡ get_or old k 0)
