-- No number passes its row, and each pass brings them nearer.
use Rattle.std.proofs.Common.{◌≡◌, length}
use Rattle.rows.specs.Passes.{Under, gap}
use Rattle.rows.proofs.ranking.rows_of.Given as goal

abbrev pub invariant-loop : goal.invariant-loop
invariant-loop l = Under l.c.lines l.rows × (length l.rows ≡ 208)

abbrev pub decreases-loop : goal.decreases-loop
decreases-loop l = gap l.c.lines l.rows l.c.lines.count
