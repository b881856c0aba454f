use Rattle.meaning.proofs.Branches.{structured}
use Rattle.meaning.proofs.theorem.branches_run_as_written.Goals as goal

pub returns : goal.returns
returns c = structured
