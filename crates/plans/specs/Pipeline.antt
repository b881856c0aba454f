-- The pipeline that carries a plan out. Assumes nothing.
use Rattle.std.specs.Prelude.{ℕ, cond, List, [], ◌∷◌, map, take, replicate, ◌==◌, slice_index, slice_index_or, slice_set}
use Rattle.std.specs.List.{range_with_len}
use Rattle.meaning.specs.Serial.{values}
use Rattle.lines.specs.declared.lines.Lines.{Lines}
use Rattle.lines.specs.Work.{value_of, makes}
use Rattle.line_graph.specs.Edges.{line_at}
use Rattle.codelets.specs.Codelets.{is_named, read_of}
use Rattle.placement.specs.Placement.{stage_at}
use Rattle.resolving.specs.declared.packet.Packet.{Packet as Row}
use Rattle.book.specs.Book.{Shape}
use Rattle.book.specs.Pipeline.{Pipeline, Contents}
use Rattle.plans.specs.declared.plan.Plan.{Plan}

abbrev pub lines_in : Plan → Lines
lines_in plan = plan.placement.codelets.lines

-- the stage of a state's atom, 0 where no statement names the state
abbrev pub atom_stage : Plan → ℕ → ℕ
atom_stage plan s = cond (is_named (lines_in plan) s) (stage_at plan.placement (read_of (lines_in plan) s)) 0

abbrev pub shape_of : Plan → Shape
shape_of plan = record { depth = plan.placement.stages.count; width = plan.transaction.fields; states = plan.transaction.states; stage = atom_stage plan }

-- at the entry a packet carries its fields, and no line is made
abbrev pub entered : List ℕ → Row
entered fs = record { fields = map (λ i. slice_index fs i) (range_with_len 0 16); lines = replicate 208 0 }

-- the fields with which a packet leaves: their final values
abbrev pub leaving_with : Plan → Row → List ℕ
leaving_with plan row = map (value_of row.fields row.lines) (take plan.transaction.fields (lines_in plan).finals)

-- a state's setting
abbrev pub setting_of : Plan → ℕ → List ℕ
setting_of plan s = slice_index_or plan.settings s []

module _ (plus minus : ℕ → ℕ → ℕ) (plan : Plan) where
  -- what the node at n makes: an atom hands on the old word as it stands, a line or an echo works on what the packet carries
  abbrev pub made_at : Row → List ℕ → ℕ → ℕ
  made_at row ws n = makes plus minus (values row.fields ws) row.lines (line_at (lines_in plan) n)

  -- of these nodes, those of stage k put what they make at their numbers
  abbrev pub filled : ℕ → Row → List ℕ → List ℕ → List ℕ → List ℕ
  filled k row ws [] made = made
  filled k row ws (n ∷ ns) made = filled k row ws ns (cond (stage_at plan.placement n == k) (slice_set made n (made_at row ws n)) made)

  -- stage k's work on what a packet carries to it and on the words as they stand: every node of the stage at once
  abbrev pub stage_work : ℕ → Row → List ℕ → Row
  stage_work k row ws = record { fields = row.fields; lines = filled k row ws (range_with_len 0 208) row.lines }

-- where there is no row, the blank one
abbrev pub blank : Row
blank = record { fields = []; lines = [] }

abbrev pub row_at : Contents Row → ℕ → Row
row_at m q = slice_index_or m.carried q blank

-- `ran` is what a setting makes of the old word and of what a packet carries
abbrev pub pipeline_of : (plus minus : ℕ → ℕ → ℕ) (ran : List ℕ → ℕ → Row → ℕ) → Plan → Pipeline Row
pipeline_of plus minus ran plan =
    record {
      shape = shape_of plan;
      blank = blank;
      enter = entered;
      work = stage_work plus minus plan;
      run = λ s old row. ran (setting_of plan s) old row;
      leave = leaving_with plan;
    }
