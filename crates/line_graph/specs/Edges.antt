-- The graph of a transaction's lines. Assumes nothing.
use Rattle.std.specs.Prelude.{ℕ, Bool, false, ◌||◌, ◌==◌, slice_index_or}
use Rattle.lines.specs.declared.line.Line.{Line}
use Rattle.lines.specs.declared.line.Line.TheVariants.{Read, Copy, Add, Sub, Less, Equal, Choose, Write}
use Rattle.lines.specs.declared.lines.Lines.{Lines}
use Rattle.lines.specs.Layout.{reads_line}

abbrev pub line_at : Lines → ℕ → Line
line_at r n = slice_index_or r.lines n (Read 0)

-- whether line m is read by line n
abbrev pub read_by : Lines → ℕ → ℕ → Bool
read_by r m n = reads_line m (line_at r n)

-- whether a line is state s's write line
abbrev pub writes_to : ℕ → Line → Bool
writes_to s (Read t) = false
writes_to s (Copy a) = false
writes_to s (Add a b) = false
writes_to s (Sub a b) = false
writes_to s (Less a b) = false
writes_to s (Equal a b) = false
writes_to s (Choose c a b) = false
writes_to s (Write t a) = t == s

-- whether the first is a state's read line and the second its write line
abbrev pub pairs : Line → Line → Bool
pairs (Read s) l = writes_to s l
pairs (Copy a) l = false
pairs (Add a b) l = false
pairs (Sub a b) l = false
pairs (Less a b) l = false
pairs (Equal a b) l = false
pairs (Choose c a b) l = false
pairs (Write s a) l = false

-- an edge runs from a line to each line that reads it, and both ways between a state's read line and its write line
abbrev pub edge : Lines → ℕ → ℕ → Bool
edge r a b = read_by r a b || (pairs (line_at r a) (line_at r b) || pairs (line_at r b) (line_at r a))
