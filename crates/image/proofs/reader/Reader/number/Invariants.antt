use Rattle.std.proofs.Common.{◌≡◌, ◌+◌, ◌*◌, ◌^◌, ◌≤◌, length}
use Rattle.std.specs.Iterator.Adapters.{enumerate_source, enumerate_count, take_source, take_count}
use Rattle.std.specs.Slice.Iter.{iter_rest}
use Rattle.image.specs.Reading.{groups, number_at}
use Rattle.image.proofs.reader.Reader.number.Given as goal

abbrev pub invariant-loop-k : goal.invariant-loop-k
invariant-loop-k l =
    let k = enumerate_count l.k-iterator in
    let groups_left = enumerate_source l.k-iterator in
    let rest = iter_rest (take_source groups_left) in
    record {
      next : (goal.iterator-loop-k).can_next l.k-iterator;
      ends : (goal.iterator-loop-k).is_finite l.k-iterator;
      bytes : l.self.bytes.now ≡ l.initial.self.bytes.now;
      offset : l.self.offset ≡ l.initial.self.offset;
      few : take_count groups_left + k ≡ 5;
      room : l.self.offset + k + length rest ≡ length l.self.bytes.now;
      small : l.value ≤ k * 2 ^ 35;
      so_far : number_at l.initial.self.bytes.now l.initial.self.offset ≡ groups l.self.offset k l.value rest;
    }
