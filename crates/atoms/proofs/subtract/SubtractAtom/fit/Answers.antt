use Rattle.std.proofs.Common.{refl}
use Rattle.std.proofs.lemmas.Bool.{leb-true}
use Rattle.resolving.specs.Leaves.{result}
use Rattle.atoms.proofs.Operations.{operation_right}
use Rattle.atoms.proofs.subtract.SubtractAtom.fit.Goals as goal

pub returns-clause-right : goal.returns-clause-right
returns-clause-right g c = λ e room.
    let plus = g.M.Arithmetic.plus in
    let minus = g.M.Arithmetic.minus in
    operation_right plus minus g.met.M.Arithmetic.swap c.args.update.now.codelet.now c.args.update.now.decided (result plus minus) c.args.update.now.source c.fit_operation.new.buffer (c.fit_operation.ensures.written e (leb-true 3 _ room)) c.fit_operation.ensures.word (λ old p. refl)
