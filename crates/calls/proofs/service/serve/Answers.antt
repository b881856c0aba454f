use Rattle.std.proofs.Common.{sym, subst}
use Rattle.image.specs.Reading.{good}
use Rattle.plans.specs.declared.plan.Plan.{Plan}
use Rattle.compiler.specs.Verdict.{Verdict}
use Rattle.calls.proofs.Serving.{serves}
use Rattle.calls.proofs.service.serve.Goals as goal

pub returns : goal.returns
returns g c =
    let s = c.in_ok-start.ensures in
    let r = c.run_calls.ensures in
    record {
      verdict = subst (λ (x : Plan). Verdict g.A.Atom.len g.A.Atom.takes c.args.image.now c.args.d c.args.p c.args.q (good x.placement.stages.count)) (sym r.same.plan) s.verdict;
      served = serves g.A.Arith.Arithmetic.plus g.A.Arith.Arithmetic.minus g.A.Atom.ran c.args.image.now c.args.d c.args.p c.args.q c.args.asked.now c.run_calls.new.asked c.start.new.self c.run_calls.new.machine r.same.plan s.started.0 r.run;
    }
