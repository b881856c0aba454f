use Rattle.compiler.proofs.Steps.{reaches_verdict, reaches_plan}
use Rattle.compiler.proofs.planning.compile.Goals as goal

pub returns : goal.returns
returns g c =
    let limits = c.in_ok-limits.limits in
    let l = c.in_ok-limits.ensures in
    let t = c.in_ok-transaction.transaction in
    let read = c.in_ok-transaction.ensures.answer in
    record {
      verdict = reaches_verdict g.A.Atom.len c.args.d c.args.p c.args.q g.A.Atom.takes c.args.image.now t limits _ l.answer l.kept c.in_ok-fitter.fitter.short read c.plan_of.ensures.verdict;
      plan = reaches_plan g.A.Arith.Arithmetic.plus g.A.Arith.Arithmetic.minus g.A.Atom.ran c.args.d c.args.p c.args.q c.args.image.now t limits c.plan_of.result l.kept read c.plan_of.ensures.plan;
    }
