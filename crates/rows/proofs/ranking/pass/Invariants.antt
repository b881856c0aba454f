-- A pass on its way.
use Rattle.rows.proofs.Passing.{Passing}
use Rattle.rows.proofs.ranking.pass.Given as goal

abbrev pub invariant-loop-n : goal.invariant-loop-n
invariant-loop-n l = Passing l.c.lines l.initial.rows l.rows l.changed l.n
