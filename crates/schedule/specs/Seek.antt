-- The next node of a stage. Assumes nothing.
use Rattle.std.specs.Prelude.{◌≡◌, ℕ, ◌+◌, ◌<◌, ◌≤◌, cond, List, [], ◌∷◌, length, drop, Some, None, Option, ◌==◌, ◌≢◌, nat_lt, slice_index, unwrap_or}

-- the first of these nodes, numbered from n, that is of stage k, or past the last
abbrev pub seek_from : ℕ → ℕ → List ℕ → ℕ
seek_from k n [] = n
seek_from k n (x ∷ xs) = cond (x == k) n (seek_from k (n + 1) xs)

-- the least number from n on of a node of stage k, or the length where there is none
abbrev pub seek : List ℕ → ℕ → ℕ → ℕ
seek stages k n = seek_from k n (drop n stages)

-- the first node of stage k from number n on, where there is one
abbrev pub first_from : List ℕ → ℕ → ℕ → Option ℕ
first_from stages k n = cond (nat_lt (seek stages k n) (length stages)) (Some (seek stages k n)) None

-- what is found is of stage k, unless nothing is, and nothing before it is
pub record Sought (stages : List ℕ) (k n found : ℕ) : Type 0 where
  pub from : n ≤ found
  pub within : found ≤ length stages
  pub there : found < length stages → slice_index stages found ≡ k
  pub between : (m : ℕ) → n ≤ m → m < found → slice_index stages m ≢ k

abbrev pub SeekFinds : Type 0
SeekFinds = (stages : List ℕ) (k n : ℕ) → n ≤ length stages → Sought stages k n (seek stages k n)

-- the first node, or the length where there is none, is what is sought
abbrev pub FirstTells : Type 0
FirstTells = (stages : List ℕ) (k n : ℕ) → n ≤ length stages → unwrap_or (first_from stages k n) (length stages) ≡ seek stages k n
