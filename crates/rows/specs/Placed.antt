-- What tables of sorts and rows come to. Assumes nothing.
use Rattle.std.specs.Prelude.{◌≡◌, ℕ, ◌+◌, ◌<◌, ◌≤◌, true, List, is_some, None, Option, slice_index_or}
use Rattle.lines.specs.declared.lines.Lines.{Lines}
use Rattle.stages.specs.declared.node.Node.{Node}
use Rattle.rows.specs.Sorts.{sort_of}
use Rattle.rows.specs.Makers.{makes, Reads}
use Rattle.rows.specs.Rows.{highest}
use Rattle.rows.specs.Passes.{row_at}

pub record Placed (r : Lines) (sort : List (Option Node)) (rows : List ℕ) : Type 0 where
  -- the nodes are the definition's
  pub nodes : (n : ℕ) → slice_index_or sort n None ≡ sort_of r n
  -- a node's row is 1 + the highest row among the makers of what it reads, or 1 where there are none
  pub rule : (n : ℕ) → is_some (slice_index_or sort n None) ≡ true → row_at rows n ≡ 1 + highest r.count (λ m. makes r m n) (row_at rows)
  -- what a node reads is made by a node of a lower row
  pub lower : (m n : ℕ) → Reads r m n → (is_some (slice_index_or sort m None) ≡ true) × (row_at rows m < row_at rows n)
  -- there are no more rows than lines
  pub first : (n : ℕ) → is_some (slice_index_or sort n None) ≡ true → 1 ≤ row_at rows n
  pub last : (n : ℕ) → is_some (slice_index_or sort n None) ≡ true → row_at rows n ≤ r.count
