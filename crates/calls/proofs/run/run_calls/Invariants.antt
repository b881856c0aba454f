use Rattle.plans.specs.Pipeline.{pipeline_of}
use Rattle.machine.specs.Held.{contents}
use Rattle.machine.specs.Moved.{SameCircuit}
use Rattle.calls.proofs.Turns.{SoFar}
use Rattle.calls.proofs.run.run_calls.Given as goal

abbrev pub invariant-loop-one : goal.invariant-loop-one
invariant-loop-one g l =
    SoFar (pipeline_of g.A.Arith.Arithmetic.plus g.A.Arith.Arithmetic.minus g.A.Atom.ran l.initial.machine.plan) l.initial.asked l.asked l.one-index (contents l.initial.machine) (contents l.machine)
    × SameCircuit l.initial.machine l.machine
