-- Which lines a transaction has, and where they stand. Assumes nothing.
use Rattle.std.specs.Prelude.{◌≡◌, ℕ, ◌+◌, ◌-◌, ◌<◌, ◌≤◌, true, false, List, length, take, slice_index, slice_index_or}
use Rattle.transaction.specs.declared.statement.Statement.{Statement}
use Rattle.transaction.specs.declared.statement.Statement.TheVariants.{End}
use Rattle.transaction.specs.declared.transaction.Transaction.{Transaction}
use Rattle.lines.specs.declared.line.Source.TheVariants.{Constant as Fixed}
use Rattle.lines.specs.declared.line.Line.TheVariants.{Read, Write}
use Rattle.lines.specs.declared.lines.Lines.{Lines}
use Rattle.lines.specs.Named.{names, named_of, amount}
use Rattle.lines.specs.Build.{body_of, lines_of, finals_of, updates_of, numbered}
use Rattle.lines.specs.Layout.{is_line, reads_line, is_plain}

-- the table holds the definition's list, and nothing else that means anything
pub record Exactly (xs : List Statement) (r : Lines) : Type 0 where
  pub lines : take r.count r.lines ≡ lines_of xs
  pub count : r.count ≡ length (lines_of xs)
  pub few : r.count ≤ 208
  pub named : r.named ≡ named_of xs
  -- a marked state is named by a statement, and a state that a statement names is marked
  pub marked : (s : ℕ) → slice_index_or r.named s false ≡ true → (n : ℕ) × (n < length xs) × (names s (slice_index_or xs n End) ≡ true)
  pub naming : (s n : ℕ) → s < 8 → n < length xs → names s (slice_index_or xs n End) ≡ true → slice_index_or r.named s false ≡ true
  pub finals : r.finals ≡ finals_of xs
  pub updates : r.updates ≡ updates_of xs
  pub reads : r.reads ≡ numbered 0 (named_of xs)
  pub writes : r.writes ≡ numbered (length (body_of xs).lines) (named_of xs)

-- a named state is one of the transaction's
abbrev pub NamedThere : Transaction → Lines → Type 0
NamedThere t r = (s : ℕ) → slice_index_or r.named s false ≡ true → s < t.states

-- the number of the first write line
abbrev pub first_write : Lines → ℕ
first_write r = r.count - amount r.named

pub record InOrder (r : Lines) : Type 0 where
  -- every line reads only lower lines, and none reads a write line
  pub lower : (n m : ℕ) → n < r.count → reads_line m (slice_index_or r.lines n (Read 0)) ≡ true → m < n
  pub unread : (n m : ℕ) → n < r.count → reads_line m (slice_index_or r.lines n (Read 0)) ≡ true → m < first_write r
  -- final values and updates are no write lines either
  pub finals : (i m : ℕ) → is_line m (slice_index_or r.finals i (Fixed 0)) ≡ true → m < first_write r
  pub updates : (s m : ℕ) → is_line m (slice_index_or r.updates s (Fixed 0)) ≡ true → m < first_write r
  -- a named state's read line, among the first, and its write line, as far on among the last
  pub first : (s : ℕ) → slice_index_or r.named s false ≡ true → slice_index r.reads s < amount r.named
  pub read : (s : ℕ) → slice_index_or r.named s false ≡ true → slice_index_or r.lines (slice_index r.reads s) (Read 0) ≡ Read s
  pub paired : (s : ℕ) → slice_index_or r.named s false ≡ true → slice_index r.writes s ≡ first_write r + slice_index r.reads s
  pub last : (s : ℕ) → slice_index_or r.named s false ≡ true → slice_index r.writes s < r.count
  pub write : (s : ℕ) → slice_index_or r.named s false ≡ true → slice_index_or r.lines (slice_index r.writes s) (Read 0) ≡ Write s (slice_index_or r.updates s (Fixed 0))
  -- and every line between is neither
  pub apart : amount r.named ≤ first_write r
  pub between : (n : ℕ) → amount r.named ≤ n → n < first_write r → is_plain (slice_index_or r.lines n (Read 0)) ≡ true
