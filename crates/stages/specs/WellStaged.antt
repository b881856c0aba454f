-- What every filling of stages keeps. Assumes nothing.
use Rattle.std.specs.Prelude.{◌≡◌, ℕ, ◌<◌, ◌≤◌, true, false, cond, ◌&&◌, Some, None, Option, ◌==◌, nat_lt, slice_index}
use Rattle.stages.specs.declared.fault.StageFault.{StageFault}
use Rattle.stages.specs.declared.node.Slot.{Slot}
use Rattle.stages.specs.declared.node.Slot.TheVariants.{Stateless, Stateful}
use Rattle.stages.specs.declared.node.Nodes.{Nodes}
use Rattle.stages.specs.declared.node.Stages.{Stages}
use Rattle.stages.specs.Filling.{tally, takes, node_at, is_node, row_of}

-- more stages are needed than there are: the number needed
abbrev pub too_deep : ℕ → ℕ → Option StageFault
too_deep D needed = cond (nat_lt D needed) (Some (record { needed = needed })) None

-- how many nodes that take such a slot stand in stage t
abbrev pub standing_in : Nodes → (ℕ → ℕ) → Slot → ℕ → ℕ
standing_in x stage slot t = tally 208 (λ n. takes slot (node_at x n) && stage n == t)

-- stages for P lines and echoes and Q atoms to a stage
pub record Keeps (x : Nodes) (P Q : ℕ) (stage : ℕ → ℕ) (count : ℕ) : Type 0 where
  -- a node stands in one of the stages, and where there is no node there is no stage
  pub first : (n : ℕ) → n < 208 → is_node x n ≡ true → 1 ≤ stage n
  pub last : (n : ℕ) → n < 208 → is_node x n ≡ true → stage n ≤ count
  pub absent : (n : ℕ) → n < 208 → is_node x n ≡ false → stage n ≡ 0
  -- a lower row comes first
  pub earlier : (m n : ℕ) → m < 208 → n < 208 → is_node x m ≡ true → is_node x n ≡ true → row_of x m < row_of x n → stage m < stage n
  -- in a row, lines and echoes keep the one order of the table, and so do atoms
  pub ordered : (slot : Slot) (m n : ℕ) → m < n → n < 208 → takes slot (node_at x m) ≡ true → takes slot (node_at x n) ≡ true → row_of x m ≡ row_of x n → stage m ≤ stage n
  -- no stage holds more than it has room for
  pub lines : (t : ℕ) → standing_in x stage Stateless t ≤ P
  pub atoms : (t : ℕ) → standing_in x stage Stateful t ≤ Q
  -- without nodes there is one stage
  pub empty : ((n : ℕ) → n < 208 → is_node x n ≡ false) → count ≡ 1

abbrev pub WellStaged : Nodes → ℕ → ℕ → Stages → Type 0
WellStaged x P Q s = Keeps x P Q (λ n. slice_index s.stage_of n) s.count
