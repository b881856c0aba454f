use Rattle.image.proofs.AcceptsWritten.{accepts_written}
use Rattle.image.proofs.theorem.accepts_written.Goals as goal

pub returns : goal.returns
returns c = accepts_written
