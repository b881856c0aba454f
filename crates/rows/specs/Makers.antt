-- What nodes read, and which nodes make it. Assumes nothing.
use Rattle.std.specs.Prelude.{◌≡◌, ℕ, Bool, true, not, ◌&&◌, Some, Decides}
use Rattle.graph.specs.Rounds.{some_below}
use Rattle.lines.specs.declared.line.Line.{Line}
use Rattle.lines.specs.declared.line.Line.TheVariants.{Read, Copy, Add, Sub, Less, Equal, Choose, Write}
use Rattle.lines.specs.declared.lines.Lines.{Lines}
use Rattle.lines.specs.Layout.{reads_line}
use Rattle.line_graph.specs.Edges.{line_at, read_by}
use Rattle.codelets.specs.Codelets.{is_named, read_of, InCodelet, in_codelet}
use Rattle.stages.specs.declared.node.Node.TheVariants.{Line as Outside, Echo}
use Rattle.rows.specs.Sorts.{sort_of, is_node}

-- a line of state s's codelet, and it reads line m
abbrev pub read_inside : Lines → ℕ → ℕ → ℕ → Bool
read_inside r s m i = in_codelet r s i && read_by r m i

-- an atom reads every value from outside its codelet that a line of its codelet reads
abbrev pub atom_reads : Lines → ℕ → ℕ → Bool
atom_reads r s m = not (in_codelet r s m) && some_below r.count (read_inside r s m)

-- what stands at a read line is its state's atom; anything else reads what its line reads
abbrev pub reads_as : Lines → ℕ → Line → Bool
reads_as r m (Read s) = atom_reads r s m
reads_as r m (Copy a) = reads_line m (Copy a)
reads_as r m (Add a b) = reads_line m (Add a b)
reads_as r m (Sub a b) = reads_line m (Sub a b)
reads_as r m (Less a b) = reads_line m (Less a b)
reads_as r m (Equal a b) = reads_line m (Equal a b)
reads_as r m (Choose c a b) = reads_line m (Choose c a b)
reads_as r m (Write s a) = reads_line m (Write s a)

-- whether what stands at n reads what stands at m makes: the old word at a read line, the line's value elsewhere
abbrev pub makes : Lines → ℕ → ℕ → Bool
makes r m n = reads_as r m (line_at r n)

-- the same in words: node n reads the value that node m makes
pub data Reads (r : Lines) : ℕ → ℕ → Type 0 where
  line : (m n : ℕ) → sort_of r n ≡ Some Outside → read_by r m n ≡ true → Reads r m n
  echo : (m n : ℕ) → sort_of r n ≡ Some Echo → read_by r m n ≡ true → Reads r m n
  atom : (m n s i : ℕ) → is_named r s ≡ true → read_of r s ≡ n → InCodelet r s i → read_by r m i ≡ true → (InCodelet r s m → ⊥) → Reads r m n

-- the computed relation is this one, and what a node reads a node makes
pub record Made (r : Lines) (m n : ℕ) : Type 0 where
  pub reads : Decides (is_node r n && makes r m n) (Reads r m n)
  pub maker : Reads r m n → is_node r m ≡ true

abbrev pub MakersStand : Type 0
MakersStand = (r : Lines) (m n : ℕ) → Made r m n
