use Rattle.std.proofs.Common.{◌≡◌, ◌+◌, ◌≤◌, ◌++◌, length, take, drop}
use Rattle.lines.specs.Build.{numbered}
use Rattle.lines.proofs.build.number_states.Given as goal

abbrev pub invariant-loop-s : goal.invariant-loop-s
invariant-loop-s l =
    (take l.s l.numbers ++ numbered l.next (drop l.s l.named) ≡ numbered l.first l.named)
    × (l.next ≤ l.first + l.s)
    × (length l.numbers ≡ 8)
