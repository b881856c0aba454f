use Rattle.std.proofs.Common.{◌∙◌, arith, length-set, tests}
use Rattle.lines.proofs.States.{numbered_on, all_numbered}
use Rattle.lines.proofs.build.number_states.Goals as goal

pub overflow_add-next : goal.overflow_add-next
overflow_add-next c = grind (arith, tests)

pub loop-s-preserved : goal.loop-s-preserved
loop-s-preserved c =
    let v = c.loop-s.invariant in
    let on = numbered_on c.args.named.now c.loop-s.s (omega arith) c.loop-s.next c.loop-s.numbers c.from-next.result (omega arith) (λ t. rw t at c.from-next.ensures) (λ f. rw f at c.from-next.ensures) in (
      on.1 ∙ v.0,
      omega (arith, on.0),
      length-set c.loop-s.numbers c.loop-s.s c.loop-s.next ∙ v.2,
    )

pub returns : goal.returns
returns c = all_numbered c.args.named.now c.loop-s.s (omega arith) c.loop-s.next c.loop-s.numbers _ (omega arith) c.loop-s.invariant.0
