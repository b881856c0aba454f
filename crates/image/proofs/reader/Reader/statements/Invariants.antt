use Rattle.std.proofs.Common.{◌≡◌, ◌-◌, [], length, take}
use Rattle.transaction.specs.Frames.{frames_of, elses}
use Rattle.image.specs.Reading.{statements_at}
use Rattle.image.proofs.reader.Reader.statements.Given as goal

abbrev pub invariant-loop-i : goal.invariant-loop-i
invariant-loop-i l =
    let f = l.counts.fields in
    let s = l.counts.states in
    record {
      bytes : l.self.bytes.now ≡ l.initial.self.bytes.now;
      long : length l.table ≡ 48;
      so_far : statements_at l.count f s l.initial.self.bytes.now [] [] l.initial.self.offset ≡ statements_at (l.count - l.i) f s l.self.bytes.now (elses (frames_of l.nest)) (take l.i l.table) l.self.offset;
    }
