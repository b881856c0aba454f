-- The examples compute.
use Rattle.rows.proofs.Built.{samples_stand}
use Rattle.rows.proofs.theorem.samples_stand.Goals as goal

pub returns : goal.returns
returns c = samples_stand
