-- Reached from the write line and reaching it is being in the codelet.
use Rattle.std.proofs.Common.{◌&&◌, ◌∙◌, ap₂}
use Rattle.codelets.proofs.Paths.{named_in}
use Rattle.codelets.proofs.codelets.Codelet.of.Goals as goal

pub invariant_of-result : goal.invariant_of-result
invariant_of-result c = record {
  meets = λ n. ap₂ ◌&&◌ (c.reach.ensures.computed n) (c.reach-2.ensures.computed n) ∙ named_in c.args.lines.now c.args.state n c.at-write.result c.requires c.at-write.ensures;
}
