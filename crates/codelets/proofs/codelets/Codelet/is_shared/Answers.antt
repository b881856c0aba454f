-- What `any` finds among the eight states.
use Rattle.std.proofs.Common.{rules, tests}
use Rattle.graph.proofs.Any.{any_below}
use Rattle.codelets.specs.Codelets.{crowds}
use Rattle.codelets.proofs.codelets.Codelet.is_shared.Goals as goal

pub returns : goal.returns
returns c =
    any_below (crowds c.args.self.now.lines.now c.args.self.now.state) 8 _ _ c.any.result c.any.ensures.ran (λ x b q k. search (rules, tests))
