use Rattle.plans.specs.Pipeline.{pipeline_of}
use Rattle.machine.specs.Held.{contents}
use Rattle.machine.specs.Moved.{SameCircuit}
use Rattle.machine.proofs.Passing.{Passing}
use Rattle.machine.proofs.machine.Machine.tick.Given as goal

abbrev pub invariant-loop-q : goal.invariant-loop-q
invariant-loop-q g l =
    Passing (pipeline_of g.A.Arith.Arithmetic.plus g.A.Arith.Arithmetic.minus g.A.Atom.ran l.initial.self.plan) l.q (contents l.initial.self) (contents l.self)
    × SameCircuit l.initial.self l.self
