-- The classes of the three atom kinds that do one operation, and their runs. Assumes nothing.
use Rattle.std.specs.Prelude.{ℕ, Bool, ◌||◌, List}
use Rattle.lines.specs.declared.line.Source.{Source}
use Rattle.resolving.specs.declared.codelet.Codelet.{Codelet}
use Rattle.resolving.specs.declared.decided.Decided.{Decided}
use Rattle.resolving.specs.declared.packet.Packet.{Packet}
use Rattle.resolving.specs.declared.leaf.Operation.{Operation}
use Rattle.resolving.specs.declared.leaf.Operation.TheVariants.{Set, Add as ToAdd, Subtract}
use Rattle.resolving.specs.Classes.{is_sum, is_difference}
use Rattle.resolving.specs.Codelets.{inner_line}
use Rattle.resolving.specs.Leaves.{is_leaf, leaf_value, operand, result}
use Rattle.resolving.specs.Resolving.{resolved_to}
use Rattle.settings.specs.Settings.{operation_from}

-- CLASSES
-- read_write: the update resolves to the old word or to another leaf
abbrev pub read_write_takes : Codelet → Decided → Source → Bool
read_write_takes cod d u = is_leaf cod (resolved_to cod d u)

-- add: as read_write, and an inner line old + v or v + old, for a leaf v other than the old word
abbrev pub add_takes : Codelet → Decided → Source → Bool
add_takes cod d u = read_write_takes cod d u || is_sum cod d (inner_line cod (resolved_to cod d u))

-- subtract: as add, and an inner line old - v
abbrev pub subtract_takes : Codelet → Decided → Source → Bool
subtract_takes cod d u = add_takes cod d u || is_difference cod d (inner_line cod (resolved_to cod d u))

-- RUNS, on any numbers
-- read_write: the leaf
abbrev pub read_write_ran : List ℕ → ℕ → Packet → ℕ
read_write_ran s old p = leaf_value (operand (operation_from s)) old p

-- add: a difference counts as its leaf
abbrev pub add_result : (plus : ℕ → ℕ → ℕ) → Operation → ℕ → Packet → ℕ
add_result plus (Set v) old p = leaf_value v old p
add_result plus (ToAdd v) old p = plus old (leaf_value v old p)
add_result plus (Subtract v) old p = leaf_value v old p

abbrev pub add_ran : (plus : ℕ → ℕ → ℕ) → List ℕ → ℕ → Packet → ℕ
add_ran plus s old p = add_result plus (operation_from s) old p

abbrev pub subtract_ran : (plus minus : ℕ → ℕ → ℕ) → List ℕ → ℕ → Packet → ℕ
subtract_ran plus minus s old p = result plus minus (operation_from s) old p
