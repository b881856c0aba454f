use Rattle.std.proofs.Common.{◌≡◌, ℕ, List, length, sym, ap, ◌∙◌}
use Rattle.machine.proofs.Filling.{puts, worked}
use Rattle.machine.proofs.machine.Machine.work.Goals as goal

pub returns : goal.returns
returns g c =
    let m = c.args.self.now in
    let long : length m.plan.placement.stages.stage_of ≡ 208 = ap length (sym m.scheduled) ∙ m.schedule.long in
    let none = c.in-None.ensures.steps.0 in
    worked g.A.Arith.Arithmetic.plus g.A.Arith.Arithmetic.minus m.plan c.args.visit.carried.now c.args.visit.stood.now c.args.k c.loop-n.lines long
    (ap {B = List ℕ} (λ (l : List ℕ). puts g.A.Arith.Arithmetic.plus g.A.Arith.Arithmetic.minus m.plan c.args.visit.carried.now c.args.visit.stood.now l c.loop-n.lines) (sym none) ∙ c.loop-n.invariant)
