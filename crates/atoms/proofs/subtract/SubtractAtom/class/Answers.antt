use Rattle.std.proofs.Common.{ap, ◌∙◌}
use Rattle.std.specs.Prelude.{is_some}
use Rattle.atoms.proofs.Classes.{subtract_takes_lem}
use Rattle.atoms.proofs.subtract.SubtractAtom.class.Goals as goal

pub returns : goal.returns
returns g c =
    c.is_some.ensures ∙ ap is_some c.operation.ensures.operation ∙ subtract_takes_lem c.args.update.now.codelet.now c.args.update.now.decided c.args.update.now.source
