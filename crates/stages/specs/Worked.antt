-- Two worked examples. Assumes nothing.
use Rattle.std.specs.Prelude.{◌≡◌, ℕ, List, [], ◌∷◌, map, Some, None}
use Rattle.std.specs.List.{range_with_len}
use Rattle.stages.specs.declared.node.Node.TheVariants.{Line, Echo, Atom}
use Rattle.stages.specs.declared.node.Nodes.{Nodes}
use Rattle.stages.specs.Filling.{stage_of, stage_count}
use Rattle.stages.specs.WellStaged.{too_deep}

-- sampling every tenth packet: lines 2, 4 and 6 in row 1, the atom in row 2, the echo of line 1 in row 3,
-- line 3 in row 4 and line 7 in row 5
abbrev pub sampling : Nodes
sampling = record {
  sorts = Some Atom ∷ Some Echo ∷ Some Line ∷ Some Line ∷ Some Line ∷ None ∷ Some Line ∷ Some Line ∷ [];
  rows = 2 ∷ 3 ∷ 1 ∷ 4 ∷ 1 ∷ 0 ∷ 1 ∷ 5 ∷ [];
}

-- a row of two lines round an echo, and a row of three atoms
abbrev pub mixed : Nodes
mixed = record {
  sorts = Some Atom ∷ Some Atom ∷ Some Atom ∷ Some Line ∷ Some Echo ∷ Some Line ∷ [];
  rows = 2 ∷ 2 ∷ 2 ∷ 1 ∷ 1 ∷ 1 ∷ [];
}

-- the stages of the nodes below n
abbrev pub stages_below : Nodes → ℕ → ℕ → ℕ → List ℕ
stages_below x P Q n = map (stage_of x P Q) (range_with_len 0 n)

pub record Worked : Type 0 where
  -- with room for 10 lines each row takes one stage
  pub wide : stages_below sampling 10 8 8 ≡ 2 ∷ 3 ∷ 1 ∷ 4 ∷ 1 ∷ 0 ∷ 1 ∷ 5 ∷ []
  pub five : stage_count sampling 10 8 ≡ 5
  -- with room for 2 the first row takes two
  pub narrow : stages_below sampling 2 8 8 ≡ 3 ∷ 4 ∷ 1 ∷ 5 ∷ 1 ∷ 0 ∷ 2 ∷ 6 ∷ []
  pub six : stage_count sampling 2 8 ≡ 6
  -- of four stages with room for 3, one is missing
  pub deep : too_deep 4 (stage_count sampling 3 8) ≡ Some (record { needed = 5 })
  -- the echo stands between the lines, and atoms go by their own room
  pub order : stages_below mixed 2 1 6 ≡ 3 ∷ 4 ∷ 5 ∷ 1 ∷ 1 ∷ 2 ∷ []
