use Rattle.std.proofs.Common.{refl}
use Rattle.book.proofs.SummingRight.{summing_right}
use Rattle.book.proofs.example.two_packets_summed.Goals as goal

pub returns : goal.returns
returns c = record { book = refl; right = summing_right; sum = refl }
