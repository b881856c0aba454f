-- The rows that have nodes, from one to the next. Assumes nothing.
use Rattle.std.specs.Prelude.{ℕ, zero, suc, min, Bool, true, cond, ◌&&◌, Some, None, Option, nat_lt}
use Rattle.stages.specs.declared.node.Nodes.{Nodes}
use Rattle.stages.specs.Filling.{is_node, row_of}

-- above a row, where one is given
abbrev pub above : Option ℕ → ℕ → Bool
above None r = true
above (Some prior) r = nat_lt prior r

abbrev pub comes_after : Nodes → Option ℕ → ℕ → Bool
comes_after x prior n = is_node x n && above prior (row_of x n)

abbrev pub lower : Option ℕ → ℕ → ℕ
lower None r = r
lower (Some best) r = min best r

-- of the nodes before n, the lowest row above the given one
unfoldable pub next_row : Nodes → Option ℕ → ℕ → Option ℕ
next_row x prior zero = None
next_row x prior (suc n) = cond (comes_after x prior n) (Some (lower (next_row x prior n) (row_of x n))) (next_row x prior n)
