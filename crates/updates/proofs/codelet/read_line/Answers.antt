use Rattle.std.proofs.Common.{arith}
use Rattle.updates.proofs.Numbers.{reads_low}
use Rattle.updates.proofs.codelet.read_line.Goals as goal

pub overflow_cast-result : goal.overflow_cast-result
overflow_cast-result c = omega (arith, reads_low c.args.codelets.now.lines c.args.s, c.at.ensures)
