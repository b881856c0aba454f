use Rattle.std.proofs.Common.{◌≡◌, sym, ap, ◌∙◌, rules}
use Rattle.std.proofs.lemmas.Bool.{leb-true}
use Rattle.resolving.specs.Leaves.{leaf_value, operand}
use Rattle.atoms.specs.Kinds.{read_write_takes}
use Rattle.settings.specs.Settings.{operation_from}
use Rattle.atoms.proofs.Classes.{sets, read_write_takes_lem}
use Rattle.atoms.proofs.Operations.{operation_right, sets_does}
use Rattle.atoms.proofs.read_write.ReadWriteAtom.fit.Goals as goal

pub returns-clause-right : goal.returns-clause-right
returns-clause-right g c = λ e room.
    let plus = g.M.Arithmetic.plus in
    let minus = g.M.Arithmetic.minus in
    let cod = c.args.update.now.codelet.now in
    let d = c.args.update.now.decided in
    let u = c.args.update.now.source in
    let s = c.fit_operation.new.buffer in
    let is = c.fit_operation.ensures.written e (leb-true 3 _ room) in
    let answer : c.fit_operation.result ≡ read_write_takes cod d u = search rules in
    operation_right plus minus g.met.M.Arithmetic.swap cod d (λ o old p. leaf_value (operand o) old p) u s is c.fit_operation.ensures.word (λ old p. sets_does plus minus old p (operation_from s) (ap sets (sym is) ∙ read_write_takes_lem cod d u ∙ sym answer ∙ e))
