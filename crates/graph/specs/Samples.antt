-- A small graph, and what is reached in it, computed. Assumes nothing.
use Rattle.std.specs.Prelude.{◌≡◌, ℕ, Bool, true, false, ◌&&◌, ◌||◌, [], ◌∷◌, ◌==◌}
use Rattle.graph.specs.Rounds.{reached}

abbrev pub arc : ℕ → ℕ → ℕ → ℕ → Bool
arc a b m n = m == a && n == b

-- the ring 0 → 1 → 2 → 0, with 2 → 3 and 4 → 3, and 5 alone
abbrev pub sample : ℕ → ℕ → Bool
sample m n = arc 0 1 m n || (arc 1 2 m n || (arc 2 0 m n || (arc 2 3 m n || arc 4 3 m n)))

-- from 1; from 3 against the edges; from 5, and from a number that is no node
abbrev pub SampleReached : Type 0
SampleReached =
    (reached 6 sample 1 ≡ true ∷ true ∷ true ∷ true ∷ false ∷ false ∷ []) × (reached 6 (λ m n. sample n m) 3 ≡ true ∷ true ∷ true ∷ true ∷ true ∷ false ∷ []) × (reached 6 sample 5 ≡ false ∷ false ∷ false ∷ false ∷ false ∷ true ∷ []) × (reached 6 sample 6 ≡ false ∷ false ∷ false ∷ false ∷ false ∷ false ∷ [])
