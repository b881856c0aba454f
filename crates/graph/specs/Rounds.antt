-- Which nodes of a graph a path leads to, computed by rounds. Assumes nothing.
use Rattle.std.specs.Prelude.{◌≡◌, ℕ, zero, suc, Bool, false, ◌&&◌, ◌||◌, List, [], map, length, Decides, nat_eq, slice_index_or}
use Rattle.std.specs.List.{range_with_len}
use Rattle.graph.specs.Paths.{Path, Led}

-- whether p holds of some number below n
abbrev pub some_below : ℕ → (ℕ → Bool) → Bool
some_below zero p = false
some_below (suc n) p = p n || some_below n p

-- the marks, and each node that an edge from a mark leads to
abbrev pub spread : ℕ → (ℕ → ℕ → Bool) → List Bool → List Bool
spread size edge l = map (λ n. slice_index_or l n false || some_below size (λ m. slice_index_or l m false && edge m n)) (range_with_len 0 size)

abbrev pub rounds : ℕ → (ℕ → ℕ → Bool) → ℕ → List Bool → List Bool
rounds size edge zero l = l
rounds size edge (suc k) l = rounds size edge k (spread size edge l)

-- the nodes that a path leads to from a: as many rounds as there are nodes
abbrev pub reached : ℕ → (ℕ → ℕ → Bool) → ℕ → List Bool
reached size edge a = rounds size edge size (map (λ n. nat_eq a n) (range_with_len 0 size))

-- the nodes that a path leads to from a marked one, and a round more, which adds none
abbrev pub led : ℕ → (ℕ → ℕ → Bool) → List Bool → List Bool
led size edge starts = rounds size edge (suc size) starts

-- a row for each start
abbrev pub closure : ℕ → (ℕ → ℕ → Bool) → List (List Bool)
closure size edge = map (λ a. reached size edge a) (range_with_len 0 size)

-- whether row a has b
abbrev pub reaches : List (List Bool) → ℕ → ℕ → Bool
reaches rows a b = slice_index_or (slice_index_or rows a []) b false

-- the rounds find exactly the nodes that a path leads to, from any start
abbrev pub RoundsDecidePaths : Type 0
RoundsDecidePaths =
    (size : ℕ) (edge : ℕ → ℕ → Bool) (a n : ℕ) → Decides (slice_index_or (reached size edge a) n false) (Path size edge a n)

-- from any marks on the nodes
abbrev pub LedDecidesPaths : Type 0
LedDecidesPaths =
    (size : ℕ) (edge : ℕ → ℕ → Bool) (starts : List Bool) (n : ℕ) → length starts ≡ size → Decides (slice_index_or (led size edge starts) n false) (Led size edge starts n)

abbrev pub ClosureDecidesPaths : Type 0
ClosureDecidesPaths =
    (size : ℕ) (edge : ℕ → ℕ → Bool) (a b : ℕ) → Decides (reaches (closure size edge) a b) (Path size edge a b)
