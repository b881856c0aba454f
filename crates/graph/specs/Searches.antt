-- What holds of a search on its way. Assumes nothing.
use Rattle.std.specs.Prelude.{◌≡◌, ℕ, ◌<◌, Bool, true, false, ◌⊎◌, List, length, count_by}
use Rattle.graph.specs.Paths.{On, Led}

-- the edges from a end at marks
abbrev pub Follows : ℕ → (ℕ → ℕ → Bool) → List Bool → ℕ → Type 0
Follows size edge l a = (b : ℕ) → b < size → edge a b ≡ true → On l b

-- how many nodes are marked
abbrev pub marked : List Bool → ℕ
marked l = count_by (λ b. b) l

-- marks that grew: none is lost, a path from a mark leads to each new one, and whether there is a new one
pub record Grown (size : ℕ) (edge : ℕ → ℕ → Bool) (old new : List Bool) (added : Bool) : Type 0 where
  pub long : length new ≡ length old
  pub keeps : (n : ℕ) → On old n → On new n
  pub led : (n : ℕ) → On new n → On old n ⊎ Led size edge old n
  pub more : added ≡ true → marked old < marked new
  pub same : added ≡ false → new ≡ old

-- the edges of the nodes that are done end at marks
pub record Done (size : ℕ) (edge : ℕ → ℕ → Bool) (on done : List Bool) : Type 0 where
  pub long : (length on ≡ 208) × (length done ≡ 208)
  pub follows : (k : ℕ) → On done k → Follows size edge on k

-- no edge leaves the marks
abbrev pub Closed : ℕ → (ℕ → ℕ → Bool) → List Bool → Type 0
Closed size edge l = (a : ℕ) → a < size → On l a → Follows size edge l a
