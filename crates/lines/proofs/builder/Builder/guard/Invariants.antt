use Rattle.std.proofs.Common.{◌≡◌, ◌+◌, ◌<◌, reverse, length, take}
use Rattle.transaction.specs.Frames.{frames_of}
use Rattle.lines.specs.Build.{guarded}
use Rattle.lines.proofs.builder.Builder.guard.Given as goal

abbrev pub invariant-loop-frame : goal.invariant-loop-frame
invariant-loop-frame l =
    record {
      lines : guarded (reverse l.frame-iterator.iter.rest.now) l.fn.old (take l.self.count l.self.lines) ≡ guarded (frames_of l.initial.self.nest) l.fn.old (take l.initial.self.count l.initial.self.lines);
      count : l.self.count + length l.frame-iterator.iter.rest.now ≡ l.initial.self.count + l.initial.self.nest.depth;
      fields : l.self.fields ≡ l.initial.self.fields;
      states : l.self.states ≡ l.initial.self.states;
      nest : l.self.nest ≡ l.initial.self.nest;
      some : 0 < l.self.count;
    }
