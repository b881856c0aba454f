use Rattle.std.proofs.Common.{refl}
use Rattle.std.proofs.lemmas.Bool.{both_ways}
use Rattle.plans.specs.Idle.{one}
use Rattle.plans.proofs.Empty.{bare}
use Rattle.plans.proofs.Soundness.{sound_from}
use Rattle.plans.proofs.idle.idle_plan.Goals as goal

pub one_stage-placement-requires : goal.one_stage-placement-requires
one_stage-placement-requires c = bare c.nothing-transaction.result c.lines_of-lines.result c.nothing-transaction.ensures c.lines_of-lines.ensures.exact

pub returns-clause-sound : goal.returns-clause-sound
returns-clause-sound c =
    let t = c.nothing-transaction.result in
    let r = c.lines_of-lines.result in
    let l = c.lines_of-lines.ensures in
    let empty = bare t r c.nothing-transaction.ensures l.exact in
    λ plus minus ran. sound_from plus minus ran one _ t r refl c.one_stage-placement.ensures.lines (record { exact = l.exact; there = l.there; order = l.order; meaning = l.meaning; makes = l.makes; words = l.words; blank = l.blank }) c.one_stage-placement.ensures.placed (λ s n. absurd (both_ways _ (empty.unnamed s) n))
