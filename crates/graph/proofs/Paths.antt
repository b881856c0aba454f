-- Paths: their ends, their composition, and their turn. Assumes nothing.
use Rattle.std.proofs.Common.{◌≡◌, ℕ, ◌<◌, Bool, true}
use Rattle.graph.specs.Paths.{Path, here, step, PathsCompose, PathsTurn}

module _ (size : ℕ) (edge : ℕ → ℕ → Bool) where
  pub path_from : {a b : ℕ} → Path size edge a b → a < size
  path_from (here h) = h
  path_from (step b c p h e) = path_from p

  pub path_to : {a b : ℕ} → Path size edge a b → b < size
  path_to (here h) = h
  path_to (step b c p h e) = h

  pub path_edge : (a b : ℕ) → a < size → b < size → edge a b ≡ true → Path size edge a b
  path_edge a b h k e = step a b (here h) k e

  pub path_then : {a b c : ℕ} → Path size edge a b → Path size edge b c → Path size edge a c
  path_then p (here h) = p
  path_then p (step b c q h e) = step b c (path_then p q) h e

pub path_turned : (size : ℕ) (edge : ℕ → ℕ → Bool) {a b : ℕ} → Path size edge a b → Path size (λ m n. edge n m) b a
path_turned size edge (here h) = here h
path_turned size edge (step b c p h e) =
    path_then size (λ m n. edge n m) (path_edge size (λ m n. edge n m) c b h (path_to size edge p) e) (path_turned size edge p)

pub paths_compose : PathsCompose
paths_compose size edge a b c p q = path_then size edge p q

pub paths_turn : PathsTurn
paths_turn size edge a b = (λ p. path_turned size (λ m n. edge n m) p, λ p. path_turned size edge p)
