-- What a method of the reader reads. Assumes nothing.
use Rattle.std.specs.Prelude.{◌≡◌, ℕ, List, Result}
use Rattle.transaction.specs.declared.fault.ReadFault.{ReadFault}
use Rattle.image.specs.declared.reader.Reader.{Reader}
use Rattle.image.specs.Reading.{Read, answered}

-- The bytes stay, and the answer and the new offset are what `rule` says of the bytes and the old offset.
pub record Reads {A : Type 0} (old new : Reader) (r : Result A ReadFault) (rule : List ℕ → ℕ → Read A) : Type 0 where
  pub bytes : new.bytes.now ≡ old.bytes.now
  pub read : answered r new.offset ≡ rule old.bytes.now old.offset
