-- A stage's nodes as a list. Assumes nothing.
use Rattle.std.specs.Prelude.{ℕ, ◌+◌, ◌-◌, List, [], ◌∷◌, length, filter, Some, None, Option, ◌==◌, slice_index}
use Rattle.std.specs.List.{range_with_len}
use Rattle.schedule.specs.declared.stage_nodes.StageNodes.{StageNodes}

-- the nodes of stage k from number n on, the lowest first
unfoldable pub nodes_from : List ℕ → ℕ → ℕ → List ℕ
nodes_from stages k n = filter (λ m. slice_index stages m == k) (range_with_len n (length stages - n))

-- a node, where there is one, and after it the others of its stage
abbrev pub with_others : List ℕ → Option ℕ → List ℕ
with_others stages None = []
with_others stages (Some n) = n ∷ nodes_from stages (slice_index stages n) (n + 1)

-- what is still to come
abbrev pub left : StageNodes → List ℕ
left s = with_others s.schedule.now.stage_of s.next
