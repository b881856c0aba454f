use Rattle.std.proofs.Common.{◌≡◌, ◌≤◌, ◌++◌, map, take, drop}
use Rattle.lines.specs.declared.line.Line.TheVariants.{Read}
use Rattle.lines.specs.Named.{states_from}
use Rattle.lines.specs.Build.{read_lines, firsts}
use Rattle.lines.proofs.builder.Builder.read_states.Given as goal

abbrev pub invariant-loop-s : goal.invariant-loop-s
invariant-loop-s l =
    (take l.self.count l.self.lines ++ map Read (states_from l.s (drop l.s l.named)) ≡ read_lines l.named)
    × (take l.s l.self.states ++ firsts l.self.count (drop l.s l.named) ≡ firsts 0 l.named)
    × (l.self.fields ≡ l.initial.self.fields)
    × (l.self.nest ≡ l.initial.self.nest)
    × (l.self.count ≤ l.s)
