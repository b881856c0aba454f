use Rattle.lines.proofs.OneTable.{unique}
use Rattle.lines.proofs.unique.lines_are_unique.Goals as goal

pub returns : goal.returns
returns c = unique
