use Rattle.std.proofs.Common.{get_or, refl, ap, ◌∙◌, subst, arith}
use Rattle.plans.specs.declared.plan.Plan.{Plan}
use Rattle.plans.specs.Pipeline.{pipeline_of}
use Rattle.machine.specs.Held.{contents}
use Rattle.calls.specs.declared.call.Asked.{Asked}
use Rattle.calls.specs.Asking.{call_in, answer_in}
use Rattle.calls.proofs.Turns.{Turn, so_far_none, so_far_more, so_far_all}
use Rattle.calls.proofs.run.run_calls.Goals as goal

pub loop-one-init : goal.loop-one-init
loop-one-init g c = (so_far_none _ c.args.asked.now (contents c.args.machine.now), record { plan = refl; atom = refl })

pub loop-one-preserved : goal.loop-one-preserved
loop-one-preserved g c =
    let plus = g.A.Arith.Arithmetic.plus in
    let minus = g.A.Arith.Arithmetic.minus in
    let ran = g.A.Atom.ran in
    let m = c.loop-one.machine in
    let m' = c.ask.new.machine in
    let x = get_or c.loop-one.asked c.loop-one.one-index c.one-item.result in
    let y = c.ask.new.asked in
    let inv = c.loop-one.invariant in
    let did = c.ask.ensures.did in
    let turn : Turn (pipeline_of plus minus ran c.args.machine.now.plan) (call_in x) (answer_in y) (contents m) (contents m') =
    subst (λ (p : Plan). Turn (pipeline_of plus minus ran p) (call_in x) (answer_in y) (contents m) (contents m')) inv.1.plan (record { replies = did.answer; step = did.step; book = λ one b R a. let z = did.book one b R a in (z.answer, z.agrees) }) in (
      so_far_more (pipeline_of plus minus ran c.args.machine.now.plan) c.args.asked.now c.loop-one.asked c.loop-one.one-index x y (contents c.args.machine.now) (contents m) (contents m')
          (ap {B = Asked} (λ (d : Asked). get_or c.loop-one.asked c.loop-one.one-index d) c.one-item.is) (omega (arith, c.loop-one-test.true, c.loop-one.auto.asked)) c.loop-one.auto.asked turn c.ask.ensures.call c.ask.ensures.spares inv.0,
      record { plan = did.plan ∙ inv.1.plan; atom = did.atom ∙ inv.1.atom },
    )

pub returns : goal.returns
returns g c =
    record {
      run = so_far_all _ c.args.asked.now c.loop-one.asked c.loop-one.one-index (contents c.args.machine.now) (contents c.loop-one.machine) c.loop-one-test.false c.loop-one.auto.asked c.loop-one.invariant.0;
      same = c.loop-one.invariant.1;
    }
