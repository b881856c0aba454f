-- Inner lines and outside lines. Assumes nothing.
use Rattle.std.specs.Prelude.{ℕ, Bool, ◌&&◌}
use Rattle.graph.specs.Rounds.{some_below}
use Rattle.lines.specs.declared.lines.Lines.{Lines}
use Rattle.lines.specs.Layout.{is_plain}
use Rattle.line_graph.specs.Edges.{line_at}
use Rattle.codelets.specs.Codelets.{in_codelet}

-- whether a line is in some state's codelet; every other line is an outside line
abbrev pub owned : Lines → ℕ → Bool
owned r n = some_below 8 (λ s. in_codelet r s n)

-- the lines of a codelet other than its read and write lines are inner
abbrev pub inner : Lines → ℕ → Bool
inner r n = owned r n && is_plain (line_at r n)
