use Rattle.std.proofs.Common.{◌∙◌, arith}
use Rattle.transaction.proofs.OpenIfs.{closed_one, held_by}
use Rattle.transaction.proofs.frame.Nest.close.Goals as goal

pub returns : goal.returns
returns g c =
    let told = closed_one c.args.self.now.frames c.args.self.now.depth (omega arith) (omega arith) in
    record { answer = told.0; frames = held_by c.pop.new.self _ _ c.pop.ensures.depth c.pop.ensures.frames ∙ told.1 }
