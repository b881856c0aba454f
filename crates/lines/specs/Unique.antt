-- The lines of statements are one table, and no other. Assumes nothing.
use Rattle.std.specs.Prelude.{◌≡◌, ℕ, ◌≤◌, List, slice_index_or}
use Rattle.transaction.specs.declared.statement.Statement.{Statement}
use Rattle.lines.specs.declared.line.Line.TheVariants.{Read}
use Rattle.lines.specs.declared.lines.Lines.{Lines}
use Rattle.lines.specs.Exact.{Exactly}

-- past the count the table holds read lines of state 0, which mean nothing
abbrev pub IsBlankPast : Lines → Type 0
IsBlankPast r = (n : ℕ) → r.count ≤ n → slice_index_or r.lines n (Read 0) ≡ Read 0

-- the table of these statements: it holds their lines, and nothing past them
pub record IsTableOf (xs : List Statement) (r : Lines) : Type 0 where
  pub exact : Exactly xs r
  pub blank : IsBlankPast r

abbrev pub LinesUnique : Type 0
LinesUnique = (xs : List Statement) (r s : Lines) → IsTableOf xs r → IsTableOf xs s → r ≡ s
