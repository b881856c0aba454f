-- The nodes: outside lines, echoes and atoms. Assumes nothing.
-- An atom stands at its state's read line and an echo at its inner line, so that the maker of a line's value has the line's number.
use Rattle.std.specs.Prelude.{◌≡◌, ℕ, ◌<◌, Bool, true, false, cond, is_some, Some, None, Option, nat_lt}
use Rattle.lines.specs.declared.line.Line.{Line}
use Rattle.lines.specs.declared.line.Line.TheVariants.{Read, Copy, Add, Sub, Less, Equal, Choose, Write}
use Rattle.lines.specs.declared.lines.Lines.{Lines}
use Rattle.line_graph.specs.Edges.{line_at}
use Rattle.codelets.specs.Codelets.{is_named, read_of}
use Rattle.codelets.specs.Inner.{owned}
use Rattle.echoes.specs.Echoes.{echo, Echo as IsEcho}
use Rattle.stages.specs.declared.node.Node.{Node}
use Rattle.stages.specs.declared.node.Node.TheVariants.{Line as Outside, Echo, Atom}

abbrev pub is_read : Line → Bool
is_read (Read s) = true
is_read (Copy a) = false
is_read (Add a b) = false
is_read (Sub a b) = false
is_read (Less a b) = false
is_read (Equal a b) = false
is_read (Choose c a b) = false
is_read (Write s a) = false

-- what stands at a line of a codelet
abbrev pub owned_sort : Lines → ℕ → Option Node
owned_sort r n = cond (is_read (line_at r n)) (Some Atom) (cond (echo r n) (Some Echo) None)

-- what stands at a number
abbrev pub sort_of : Lines → ℕ → Option Node
sort_of r n = cond (nat_lt n r.count) (cond (owned r n) (owned_sort r n) (Some Outside)) None

abbrev pub is_node : Lines → ℕ → Bool
is_node r n = is_some (sort_of r n)

-- the same in words: the outside lines, the echoes, and one atom for each named state
pub record Sorted (r : Lines) (n : ℕ) : Type 0 where
  pub line : ((n < r.count) × (owned r n ≡ false) → sort_of r n ≡ Some Outside) × (sort_of r n ≡ Some Outside → (n < r.count) × (owned r n ≡ false))
  pub echo : (IsEcho r n → sort_of r n ≡ Some Echo) × (sort_of r n ≡ Some Echo → IsEcho r n)
  pub atom : ((s : ℕ) → is_named r s ≡ true → read_of r s ≡ n → sort_of r n ≡ Some Atom) × (sort_of r n ≡ Some Atom → (s : ℕ) × (is_named r s ≡ true) × (read_of r s ≡ n))

abbrev pub SortsStand : Type 0
SortsStand = (r : Lines) (n : ℕ) → Sorted r n
