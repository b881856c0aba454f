use Rattle.std.proofs.Common.{length, ap, arith, rules}
use Rattle.schedule.proofs.Listing.{next_in, others_after}
use Rattle.schedule.proofs.nodes.StageNodesIterator.next.Goals as goal

pub invariant_of-self : goal.invariant_of-self
invariant_of-self c =
    let s = c.args.self.now in
    record { in_a_stage = next_in s.schedule.now.stage_of c.in_ok-n.n s.next c.next_of-self.result s.schedule.now.long s.in_a_stage c.in_ok-n.was c.next_of-self.ensures.least }

pub returns-clause-steps : goal.returns-clause-steps
returns-clause-steps c =
    let s = c.args.self.now in
    others_after s.schedule.now.stage_of c.in_ok-n.n s.next c.next_of-self.result s.schedule.now.long s.in_a_stage c.in_ok-n.was c.next_of-self.ensures.least

pub returns-clause-goes : goal.returns-clause-goes
returns-clause-goes c =
    let s = c.args.self.now in
    let e = others_after s.schedule.now.stage_of c.in_ok-n.n s.next c.next_of-self.result s.schedule.now.long s.in_a_stage c.in_ok-n.was c.next_of-self.ensures.least in
    record { on = λ _. (search rules, search rules, omega (arith, ap length e)); keeps = search rules; rests = search rules }
