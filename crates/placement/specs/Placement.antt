-- What a placement of lines comes to, and when there is none. Assumes nothing.
use Rattle.std.specs.Prelude.{◌≡◌, ℕ, ◌<◌, ◌≤◌, List, Ok, Err, Option, Result, slice_index}
use Rattle.lines.specs.declared.lines.Lines.{Lines}
use Rattle.codelets.specs.declared.codelets.Codelets.{Codelets}
use Rattle.codelets.specs.declared.fault.CodeletFault.TheVariants.{TwoStates}
use Rattle.codelets.specs.Codelets.{Shares, Coded, Smallest}
use Rattle.stages.specs.declared.fault.StageFault.{StageFault}
use Rattle.stages.specs.declared.limits.Limits.{Limits}
use Rattle.stages.specs.declared.node.Node.{Node}
use Rattle.stages.specs.Filling.{stage_of, stage_count}
use Rattle.stages.specs.WellStaged.{WellStaged}
use Rattle.rows.specs.Makers.{Reads}
use Rattle.rows.specs.Placed.{Placed}
use Rattle.placement.specs.declared.placed.Placement.{Placement}
use Rattle.placement.specs.declared.fault.PlaceFault.{PlaceFault}
use Rattle.placement.specs.declared.fault.PlaceFault.TheVariants.{Codelets as InCodelets, Stages}

abbrev pub stage_at : Placement → ℕ → ℕ
stage_at p n = slice_index p.stages.stage_of n

pub record WellPlaced (r : Lines) (l : Limits) (p : Placement) : Type 0 where
  -- the codelets are the definition's
  pub lines : p.codelets.lines ≡ r
  pub owners : Coded r p.codelets.owner
  -- so are the nodes and their rows
  pub rows : Placed r p.nodes.sorts p.nodes.rows
  -- and each node's stage, and the number of stages
  pub each : (n : ℕ) → n < 208 → stage_at p n ≡ stage_of p.nodes l.lines l.atoms n
  pub count : p.stages.count ≡ stage_count p.nodes l.lines l.atoms
  pub within : p.stages.count ≤ l.stages
  -- a node stands between the first stage and the last, and no stage holds more than it has room for
  pub filled : WellStaged p.nodes l.lines l.atoms p.stages
  -- what a node reads is made in an earlier stage
  pub earlier : (m n : ℕ) → Reads r m n → stage_at p m < stage_at p n

-- the nodes and rows are the definition's, and need more stages than there are
pub record TooDeep (r : Lines) (l : Limits) (f : StageFault) : Type 0 where
  pub apart : (s : ℕ) → Shares r s → ⊥
  pub sorts : List (Option Node)
  pub rows : List ℕ
  pub placed : Placed r sorts rows
  pub needed : f.needed ≡ stage_count (record { sorts = sorts; rows = rows }) l.lines l.atoms
  pub more : l.stages < f.needed

-- where the codelets are known: a placement that keeps them, or too few stages
abbrev pub Staged : Codelets → Limits → Result Placement StageFault → Type 0
Staged c l (Ok p) = (p.codelets ≡ c) × WellPlaced c.lines l p
Staged c l (Err f) = TooDeep c.lines l f

abbrev pub Answers : Lines → Limits → Result Placement PlaceFault → Type 0
Answers r l (Ok p) = WellPlaced r l p
Answers r l (Err (InCodelets (TwoStates s))) = Smallest r s
Answers r l (Err (Stages f)) = TooDeep r l f
