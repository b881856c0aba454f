-- Numbers that no pass raises are the rows.
use Rattle.std.proofs.Common.{ℕ, refl, ◌∙◌, arith}
use Rattle.codelets.proofs.Turns.{get_or_all}
use Rattle.rows.proofs.Passing.{at_last}
use Rattle.rows.proofs.ranking.rows_of.Goals as goal

pub loop-init : goal.loop-init
loop-init c = (λ n h. omega (arith, get_or_all {X = ℕ} 208 n 0), refl)

pub loop-smaller : goal.loop-smaller
loop-smaller c = c.loop-test.ensures.less refl

pub loop-preserved : goal.loop-preserved
loop-preserved c = (c.loop-test.ensures.under, c.loop-test.ensures.long ∙ c.loop.invariant.1)

pub pass-requires : goal.pass-requires
pass-requires c = c.loop.invariant.0

pub returns : goal.returns
returns c = at_last c.args.c.now.lines _ c.loop-test.ensures.under (c.loop-test.ensures.done refl)
