-- Rows. Assumes nothing.
use Rattle.std.specs.Prelude.{◌≡◌, ℕ, zero, suc, ◌+◌, ◌<◌, ◌≤◌, max, Bool, true, cond}
use Rattle.lines.specs.declared.lines.Lines.{Lines}
use Rattle.rows.specs.Sorts.{is_node}
use Rattle.rows.specs.Makers.{makes, Reads}

-- the highest f among the numbers below n of which p holds, or 0
abbrev pub highest : ℕ → (ℕ → Bool) → (ℕ → ℕ) → ℕ
highest zero p f = 0
highest (suc n) p f = max (cond (p n) (f n) 0) (highest n p f)

-- 1 + the highest row among the makers, following makers at most fuel deep
abbrev pub row_by : Lines → ℕ → ℕ → ℕ
row_by r zero n = 0
row_by r (suc fuel) n = 1 + highest r.count (λ m. makes r m n) (row_by r fuel)

-- no chain of makers is longer
unfoldable pub row_of : Lines → ℕ → ℕ
row_of r n = row_by r 43681 n

-- the rule: a node's row is 1 + the highest row among the makers of what it reads, or 1 where there are none
abbrev pub Rule : Lines → (ℕ → ℕ) → Type 0
Rule r row = (n : ℕ) → is_node r n ≡ true → row n ≡ 1 + highest r.count (λ m. makes r m n) row

-- the rows follow the rule, no other numbers do, and what a node reads is made by a node of a lower row
pub record Ranked (r : Lines) : Type 0 where
  pub rule : Rule r (row_of r)
  pub only : (f : ℕ → ℕ) → Rule r f → (n : ℕ) → is_node r n ≡ true → f n ≡ row_of r n
  pub lower : (m n : ℕ) → Reads r m n → (is_node r m ≡ true) × (row_of r m < row_of r n)
  -- from the first row on, and no more rows than lines
  pub first : (n : ℕ) → is_node r n ≡ true → 1 ≤ row_of r n
  pub last : (n : ℕ) → is_node r n ≡ true → row_of r n ≤ r.count

abbrev pub RowsStand : Type 0
RowsStand = (r : Lines) → Ranked r
