-- The rule that fills stages with nodes, row after row. Assumes nothing.
use Rattle.std.specs.Prelude.{ℕ, zero, suc, ◌+◌, ◌-◌, ◌/◌, max, Bool, true, false, cond, ◌&&◌, is_some, Some, None, Option, ◌==◌, nat_lt, slice_index, slice_index_or}
use Rattle.stages.specs.declared.node.Node.{Node}
use Rattle.stages.specs.declared.node.Node.TheVariants.{Line, Echo, Atom}
use Rattle.stages.specs.declared.node.Slot.{Slot}
use Rattle.stages.specs.declared.node.Slot.TheVariants.{Stateless, Stateful}
use Rattle.stages.specs.declared.node.Nodes.{Nodes}

abbrev pub one : Bool → ℕ
one true = 1
one false = 0

-- how many numbers below n pass the test
unfoldable pub tally : ℕ → (ℕ → Bool) → ℕ
tally zero p = 0
tally (suc n) p = one (p n) + tally n p

-- the highest f of the numbers below n that pass the test, or 0
unfoldable pub highest : ℕ → (ℕ → Bool) → (ℕ → ℕ) → ℕ
highest zero p f = 0
highest (suc n) p f = max (cond (p n) (f n) 0) (highest n p f)

-- m / room, rounded up
abbrev pub ceiling : ℕ → ℕ → ℕ
ceiling m room = (m + (room - 1)) / room

-- lines and echoes share their slots
abbrev pub slot_of : Node → Slot
slot_of Line = Stateless
slot_of Echo = Stateless
slot_of Atom = Stateful

abbrev pub same : Slot → Slot → Bool
same Stateless Stateless = true
same Stateless Stateful = false
same Stateful Stateless = false
same Stateful Stateful = true

abbrev pub takes : Slot → Option Node → Bool
takes slot None = false
takes slot (Some v) = same slot (slot_of v)

-- a stage has room for P lines and echoes and for Q atoms
abbrev pub room : ℕ → ℕ → Slot → ℕ
room P Q Stateless = P
room P Q Stateful = Q

abbrev pub node_at : Nodes → ℕ → Option Node
node_at x n = slice_index_or x.sorts n None

abbrev pub is_node : Nodes → ℕ → Bool
is_node x n = is_some (node_at x n)

abbrev pub row_of : Nodes → ℕ → ℕ
row_of x n = slice_index x.rows n

-- whether n takes such a slot in row r
abbrev pub in_row : Nodes → Slot → ℕ → ℕ → Bool
in_row x slot r n = takes slot (node_at x n) && row_of x n == r

-- whether m takes such a slot in row r, and stands before n
abbrev pub precedes : Nodes → Slot → ℕ → ℕ → ℕ → Bool
precedes x slot r n m = nat_lt m n && in_row x slot r m

-- a row takes as many stages as its lines and echoes need, P to a stage, or its atoms, Q to a stage, whichever are more
abbrev pub width : Nodes → ℕ → ℕ → ℕ → ℕ
width x P Q r = max (ceiling (tally 208 (in_row x Stateless r)) P) (ceiling (tally 208 (in_row x Stateful r)) Q)

-- the stages of the rows below r
unfoldable pub below : Nodes → ℕ → ℕ → ℕ → ℕ
below x P Q zero = 0
below x P Q (suc r) = below x P Q r + width x P Q r

-- the stage of the node at n, where the stages of the rows below are given: after those come the stages of its row,
-- and of these it stands in the first that its predecessors in the row leave room in
abbrev pub placed : Nodes → ℕ → ℕ → ℕ → ℕ → Option Node → ℕ
placed x P Q start n None = 0
placed x P Q start n (Some v) = (start + 1) + tally 208 (precedes x (slot_of v) (row_of x n) n) / room P Q (slot_of v)

-- the stage of the node at n, or 0 where there is none
abbrev pub stage_of : Nodes → ℕ → ℕ → ℕ → ℕ
stage_of x P Q n = placed x P Q (below x P Q (row_of x n)) n (node_at x n)

-- the stages of all rows, or one empty stage where there are no nodes
abbrev pub stage_count : Nodes → ℕ → ℕ → ℕ
stage_count x P Q = max 1 (below x P Q (highest 208 (is_node x) (row_of x) + 1))
