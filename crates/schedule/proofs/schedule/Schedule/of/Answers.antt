use Rattle.std.proofs.Common.{◌≡◌, ℕ, ◌-◌, List, length, get_or, set, replicate, Some, None, Option, refl, ap, ◌∙◌, arith, rules}
use lib.ListN.{get_or-replicate, length-replicate}
use Rattle.schedule.proofs.Seeking.{thread_none, thread_more}
use Rattle.schedule.proofs.schedule.Schedule.of.Goals as goal

pub loop-n-init : goal.loop-n-init
loop-n-init c =
    let long : length c.args.stages.now.stage_of ≡ 208 = search rules in
    thread_none c.args.stages.now.stage_of (replicate 33 None) (replicate 208 None) long refl (length-replicate {A = Option ℕ} 208 None) (λ k lt. get_or-replicate 33 k None None lt)

pub loop-n-preserved : goal.loop-n-preserved
loop-n-preserved c =
    let long : length c.args.stages.now.stage_of ≡ 208 = search rules in
    let n : ℕ = c.loop-n.n - 1 in
    thread_more c.args.stages.now.stage_of c.loop-n.first c.loop-n.next c.thread.new.first c.thread.new.next c.loop-n.n n long (omega (arith, c.loop-n.auto.n)) (omega (arith, c.loop-n-test.true)) c.loop-n.invariant
    (c.thread.ensures.next ∙ ap {B = List (Option ℕ)} (λ (k : ℕ). set c.loop-n.next n (get_or c.loop-n.first k None)) c.at.ensures)
    (c.thread.ensures.first ∙ ap {B = List (Option ℕ)} (λ (k : ℕ). set c.loop-n.first k (Some n)) c.at.ensures)
