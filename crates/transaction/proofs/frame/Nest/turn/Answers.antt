use Rattle.std.proofs.Common.{◌-◌, not, set, sym, refl, ap, ◌∙◌, arith}
use Rattle.transaction.proofs.OpenIfs.{waits, turns, held_by}
use Rattle.transaction.proofs.frame.Nest.turn.Goals as goal

pub returns-then-frame : goal.returns-then-frame
returns-then-frame g c =
    let told = waits c.args.self.now.frames c.args.self.now.depth c.index-self-self.result (omega arith) (omega arith) in
    record { answer = sym (ap not c.if-frame.true) ∙ told; frames = refl }

pub returns : goal.returns
returns g c =
    let l = c.args.self.now.frames in
    let d = c.args.self.now.depth in
    let told = waits l d c.index-self-self.result (omega arith) (omega arith) in
    record {
      answer = sym (ap not c.if-frame.false) ∙ told;
      frames = held_by c.replace.new.self _ _ c.replace.ensures.depth (c.replace.ensures.frames ∙ ap (set l (d - 1)) c.crossed.ensures) ∙ turns l d c.index-self-self.result (omega arith) (omega arith);
    }
