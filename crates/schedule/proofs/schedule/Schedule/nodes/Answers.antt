use Rattle.std.proofs.Common.{◌≡◌, List, ℕ, length, ap, ◌∙◌, ⊎_elim, arith}
use Rattle.std.proofs.lemmas.Bool.{cases_lt}
use Rattle.schedule.specs.Nodes.{with_others}
use Rattle.schedule.proofs.Listing.{with_others_from, some_in}
use Rattle.schedule.proofs.schedule.Schedule.nodes.Goals as goal

pub invariant_of-result : goal.invariant_of-result
invariant_of-result c = record {
  in_a_stage = ⊎_elim (λ lt. some_in c.args.self.now.stage_of c.args.k 0 c.first_of.result c.args.self.now.long (omega arith) lt (c.first_of.ensures.least lt)) (λ le. λ x e. absurd (let none = c.first_of.ensures.past le in cc)) (cases_lt c.args.k 33);
}

pub returns-clause-all : goal.returns-clause-all
returns-clause-all c lt =
    let stages = c.args.self.now.stage_of in
    let long : length stages ≡ 208 = c.args.self.now.long in
    ap {B = List ℕ} (with_others stages) (c.first_of.ensures.least lt) ∙ with_others_from stages c.args.k 0 (omega arith)
