-- Paths in a graph whose nodes are the numbers below its size, and marks on nodes. Assumes nothing.
use Rattle.std.specs.Prelude.{◌≡◌, ℕ, ◌<◌, Bool, true, false, List, slice_index_or}

-- zero or more edges between nodes, from a
pub data Path (size : ℕ) (edge : ℕ → ℕ → Bool) (a : ℕ) : ℕ → Type 0 where
  here : a < size → Path size edge a a
  step : (b c : ℕ) → Path size edge a b → c < size → edge b c ≡ true → Path size edge a c

-- n is marked
abbrev pub On : List Bool → ℕ → Type 0
On l n = slice_index_or l n false ≡ true

-- a path leads to n from a marked node
abbrev pub Led : ℕ → (ℕ → ℕ → Bool) → List Bool → ℕ → Type 0
Led size edge starts n = (a : ℕ) × On starts a × Path size edge a n

-- a path goes on where another ends
abbrev pub PathsCompose : Type 0
PathsCompose =
    (size : ℕ) (edge : ℕ → ℕ → Bool) (a b c : ℕ) → Path size edge a b → Path size edge b c → Path size edge a c

-- with every edge turned, the same paths lead the other way
abbrev pub PathsTurn : Type 0
PathsTurn =
    (size : ℕ) (edge : ℕ → ℕ → Bool) (a b : ℕ) → (Path size (λ m n. edge n m) a b → Path size edge b a) × (Path size edge b a → Path size (λ m n. edge n m) a b)
