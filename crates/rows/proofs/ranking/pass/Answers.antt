-- A number rises, or stands.
use Rattle.std.proofs.Common.{arith}
use Rattle.rows.proofs.Passing.{pass_start, pass_write, pass_keep, pass_end, next_low}
use Rattle.rows.proofs.ranking.pass.Goals as goal
use Rattle.rows.proofs.ranking.pass.Goals.{then-at-row, else-at-row}

pub overflow_add-row : goal.overflow_add-row
overflow_add-row c =
    let t = next_low c.args.c.now.lines c.loop-n.rows c.loop-n.n c.above-row.result c.loop-n.invariant.under c.loop-n-test.true c.above-row.ensures in
    omega arith

pub loop-n-init : goal.loop-n-init
loop-n-init c = pass_start c.args.c.now.lines _ c.requires

pub loop-n-preserved : goal.loop-n-preserved
loop-n-preserved c =
    elim c.if-at-row.branch [
      | then-at-row w ↦ pass_write c.args.c.now.lines _ _ _ _ _ _ c.above-row.result c.loop-n.invariant w.rows-is w.changed-is c.loop-n-test.true (omega (arith, c.loop-n.invariant.long, c.told-rows, c.args.c.now.lines.few)) c.above-row.ensures (omega (arith, w.if-at-row.true, c.at.ensures))
      | else-at-row w ↦ pass_keep c.args.c.now.lines _ _ _ _ _ _ c.above-row.result c.loop-n.invariant w.rows-is w.changed-is c.above-row.ensures (omega (arith, w.if-at-row.false, c.at.ensures))
    ]

pub returns : goal.returns
returns c = pass_end c.args.c.now.lines _ _ _ _ c.loop-n.invariant c.loop-n-test.false
