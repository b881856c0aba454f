-- An atom's makers, or a line's.
use Rattle.std.proofs.Common.{sym, ◌∙◌}
use Rattle.rows.specs.Passes.{row_at}
use Rattle.rows.proofs.Sorting.{unread_line}
use Rattle.rows.proofs.Tops.{above_line, above_atom}
use Rattle.rows.proofs.ranking.above.Goals as goal

pub returns-in-Read : goal.returns-in-Read
returns-in-Read c = c.atom_top.ensures ∙ above_atom c.args.c.now.lines (row_at c.args.rows.now) c.args.n c.in-Read.s (sym c.in-Read.is ∙ c.line-line.ensures)

pub returns-in_default : goal.returns-in_default
returns-in_default c = c.line_top.ensures ∙ above_line c.args.c.now.lines (row_at c.args.rows.now) c.args.n c.line-line.result c.requires c.line-line.ensures (unread_line c.line-line.result c.in_default.not-Read)
