-- How rows are worked out: passes that raise numbers until none has to rise. Assumes nothing.
use Rattle.std.specs.Prelude.{◌≡◌, ℕ, zero, suc, ◌+◌, ◌-◌, ◌<◌, ◌≤◌, max, Bool, true, false, cond, List, [], ◌∷◌, length, slice_index}
use Rattle.lines.specs.declared.line.Source.{Source}
use Rattle.lines.specs.declared.line.Source.TheVariants.{Field, Line as Made, Constant}
use Rattle.lines.specs.declared.line.Line.{Line}
use Rattle.lines.specs.declared.lines.Lines.{Lines}
use Rattle.lines.specs.Layout.{sources_of}
use Rattle.line_graph.specs.Edges.{line_at}
use Rattle.codelets.specs.Codelets.{in_codelet}
use Rattle.rows.specs.Makers.{makes}
use Rattle.rows.specs.Rows.{highest, row_of}

abbrev pub row_at : List ℕ → ℕ → ℕ
row_at l n = slice_index l n

-- the number at a source that is a line, or 0
abbrev pub source_top : (ℕ → ℕ) → Source → ℕ
source_top f (Field i) = 0
source_top f (Made m) = f m
source_top f (Constant c) = 0

-- the highest of them
abbrev pub top_of : (ℕ → ℕ) → List Source → ℕ
top_of f [] = 0
top_of f (x ∷ xs) = max (source_top f x) (top_of f xs)

abbrev pub line_top : (ℕ → ℕ) → Line → ℕ
line_top f l = top_of f (sources_of l)

-- the numbers outside state s's codelet, and 0 inside
abbrev pub outside_of : Lines → ℕ → (ℕ → ℕ) → ℕ → ℕ
outside_of r s f n = cond (in_codelet r s n) 0 (f n)

-- the highest number that a line of state s's codelet reads from outside
abbrev pub atom_top : Lines → ℕ → (ℕ → ℕ) → ℕ
atom_top r s f = highest r.count (in_codelet r s) (λ i. line_top (outside_of r s f) (line_at r i))

-- no number passes its row
abbrev pub Under : Lines → List ℕ → Type 0
Under r l = (n : ℕ) → n < r.count → row_at l n ≤ row_of r n

-- how far the numbers below n are from the rows
abbrev pub gap : Lines → List ℕ → ℕ → ℕ
gap r l zero = 0
gap r l (suc n) = (row_of r n - row_at l n) + gap r l n

-- one pass: numbers rise toward the rows, or each is above its makers' already
pub record Passed (r : Lines) (old new : List ℕ) (changed : Bool) : Type 0 where
  pub long : length new ≡ length old
  pub under : Under r new
  pub less : changed ≡ true → gap r new r.count < gap r old r.count
  pub done : changed ≡ false → (n : ℕ) → n < r.count → 1 + highest r.count (λ m. makes r m n) (row_at new) ≤ row_at new n
