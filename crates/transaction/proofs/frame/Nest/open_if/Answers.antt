use Rattle.std.proofs.Common.{set, refl, ap, ◌∙◌, arith}
use Rattle.transaction.specs.Frames.{elses}
use Rattle.transaction.proofs.OpenIfs.{may_open, too_deep, opens, held_by}
use Rattle.transaction.proofs.frame.Nest.open_if.Goals as goal

pub returns-then-self-ge3 : goal.returns-then-self-ge3
returns-then-self-ge3 g c = record { answer = too_deep c.args.self.now.frames c.args.self.now.depth (omega arith) (omega arith); frames = refl; elses = refl }

pub returns : goal.returns
returns g c =
    let l = c.args.self.now.frames in
    let d = c.args.self.now.depth in
    let held = held_by c.push.new.self _ _ c.push.ensures.depth (c.push.ensures.frames ∙ ap (set l d) c.new.ensures) ∙ opens l d c.args.on (omega arith) in
    record { answer = may_open l d (omega arith) (omega arith); frames = held; elses = ap elses held }
