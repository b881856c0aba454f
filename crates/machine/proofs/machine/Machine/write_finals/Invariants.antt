use Rattle.std.proofs.Common.{◌≡◌, ℕ, ◌<◌, get_or}
use Rattle.lines.specs.Work.{value_of}
use Rattle.lines.specs.declared.line.Source.TheVariants.{Constant}
use Rattle.plans.specs.Pipeline.{lines_in}
use Rattle.machine.proofs.machine.Machine.write_finals.Given as goal

abbrev pub invariant-loop-i : goal.invariant-loop-i
invariant-loop-i g l = (k : ℕ) → k < l.i → get_or l.out k 0 ≡ value_of l.row.fields l.row.lines (get_or (lines_in l.self.plan).finals k (Constant 0))
