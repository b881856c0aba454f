use Rattle.std.proofs.Common.{◌≡◌}
use Rattle.schedule.specs.Nodes.{nodes_from, left}
use Rattle.machine.proofs.Filling.{puts}
use Rattle.machine.proofs.machine.Machine.work.Given as goal

abbrev pub invariant-loop-n : goal.invariant-loop-n
invariant-loop-n g l =
    puts g.A.Arith.Arithmetic.plus g.A.Arith.Arithmetic.minus l.self.plan l.visit.carried.now l.visit.stood.now (left l.n-iterator) l.lines ≡ puts g.A.Arith.Arithmetic.plus g.A.Arith.Arithmetic.minus l.self.plan l.visit.carried.now l.visit.stood.now (nodes_from l.self.plan.placement.stages.stage_of l.k 0) l.visit.carried.now.lines
