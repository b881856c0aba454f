use Rattle.std.proofs.Common.{sym}
use Rattle.std.proofs.lemmas.List.{set_past}
use Rattle.word.proofs.table.put.Goals as goal

pub returns-else-n-table : goal.returns-else-n-table
returns-else-n-table g c = sym (set_past _ _ _ c.if-n-table.false)
