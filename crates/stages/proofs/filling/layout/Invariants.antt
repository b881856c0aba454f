use Rattle.stages.proofs.Progress.{Progress, waiting}
use Rattle.stages.proofs.filling.layout.Given as goal

abbrev pub invariant-loop-next : goal.invariant-loop-next
invariant-loop-next l = Progress l.nodes l.limits.lines l.limits.atoms l.next l.needed l.stage_of

abbrev pub decreases-loop-next : goal.decreases-loop-next
decreases-loop-next l = waiting l.nodes l.next
