use Rattle.std.proofs.Common.{sym, subst}
use Rattle.image.specs.Reading.{good}
use Rattle.plans.specs.declared.plan.Plan.{Plan}
use Rattle.compiler.specs.Verdict.{Verdict}
use Rattle.machine.proofs.Beginning.{begins}
use Rattle.machine.proofs.machine.Machine.start.Goals as goal

pub returns : goal.returns
returns g c =
    let made = c.in_ok-plan.ensures in
    let same = c.load.ensures.plan in
    record {
      verdict = subst (λ (y : Plan). Verdict g.A.Atom.len g.A.Atom.takes c.args.image.now c.args.d c.args.p c.args.q (good y.placement.stages.count)) (sym same) made.verdict;
      started = (
        begins g.A.Arith.Arithmetic.plus g.A.Arith.Arithmetic.minus g.A.Atom.ran g.met.A.Arith.Arithmetic.sums g.met.A.Arith.Arithmetic.differences c.args.image.now c.args.d c.args.p c.args.q c.in_ok-plan.plan c.load.new.self same made.plan c.load.ensures.fresh,
        c.load.ensures.atom,
      );
      rows = c.load.ensures.rows;
    }
