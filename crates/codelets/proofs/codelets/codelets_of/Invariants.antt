-- The owners of the states passed so far.
use Rattle.codelets.proofs.Owners.{Below}
use Rattle.codelets.proofs.codelets.codelets_of.Given as goal

abbrev pub invariant-loop-state : goal.invariant-loop-state
invariant-loop-state l = Below l.lines l.owner l.state
