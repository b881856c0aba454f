use Rattle.schedule.proofs.Seeking.{Threaded}
use Rattle.schedule.proofs.schedule.Schedule.of.Given as goal

abbrev pub invariant-loop-n : goal.invariant-loop-n
invariant-loop-n l = Threaded l.stage_of l.first l.next l.n
