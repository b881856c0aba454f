use Rattle.std.proofs.Common.{◌≡◌, ◌+◌, ◌*◌, ◌≤◌, true, drop}
use Rattle.transaction.specs.Frames.{frames_of, elses}
use Rattle.transaction.specs.WellFormed.{nested}
use Rattle.lines.specs.Build.{adds_all}
use Rattle.lines.specs.View.{draft_of}
use Rattle.lines.proofs.builder.Builder.add_all.Given as goal

abbrev pub invariant-loop-x : goal.invariant-loop-x
invariant-loop-x l =
    record {
      made : adds_all (drop l.x-index l.x-items) (draft_of l.self) ≡ adds_all l.x-items (draft_of l.initial.self);
      count : l.self.count ≤ 8 + 4 * l.x-index;
      nests : nested (elses (frames_of l.self.nest)) (drop l.x-index l.x-items) ≡ true;
    }
