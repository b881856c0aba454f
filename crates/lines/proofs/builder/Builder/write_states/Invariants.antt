use Rattle.std.proofs.Common.{◌≡◌, ◌+◌, ◌≤◌, ◌++◌, map, take, drop}
use Rattle.lines.specs.Named.{states_from}
use Rattle.lines.specs.Build.{write_line, write_lines}
use Rattle.lines.proofs.builder.Builder.write_states.Given as goal

abbrev pub invariant-loop-s : goal.invariant-loop-s
invariant-loop-s l =
    (take l.self.count l.self.lines ++ map (write_line l.initial.self.states) (states_from l.s (drop l.s l.named)) ≡ take l.initial.self.count l.initial.self.lines ++ write_lines l.named l.initial.self.states)
    × (l.self.count ≤ l.initial.self.count + l.s)
    × (l.self.fields ≡ l.initial.self.fields)
    × (l.self.states ≡ l.initial.self.states)
