-- A state's inner lines and its update. Assumes nothing.
use Rattle.std.specs.Prelude.{ℕ, Bool, ◌&&◌, List, map, slice_index_or}
use Rattle.std.specs.List.{range_with_len}
use Rattle.lines.specs.declared.line.Source.{Source}
use Rattle.lines.specs.declared.line.Source.TheVariants.{Constant as Fixed}
use Rattle.lines.specs.declared.lines.Lines.{Lines}
use Rattle.lines.specs.Layout.{is_plain}
use Rattle.line_graph.specs.Edges.{line_at}
use Rattle.codelets.specs.Codelets.{in_codelet}

-- the lines of a state's codelet other than its read line and its write line
abbrev pub is_inner : Lines → ℕ → ℕ → Bool
is_inner r s n = in_codelet r s n && is_plain (line_at r n)

abbrev pub inner_of : Lines → ℕ → List Bool
inner_of r s = map (is_inner r s) (range_with_len 0 208)

-- the value that a state's write line takes
abbrev pub update_of : Lines → ℕ → Source
update_of r s = slice_index_or r.updates s (Fixed 0)
