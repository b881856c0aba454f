-- What `any` finds among the lines.
use Rattle.std.proofs.Common.{rules, tests}
use Rattle.graph.proofs.Any.{any_below}
use Rattle.echoes.specs.Echoes.{read_outside}
use Rattle.echoes.proofs.search.is_read_outside.Goals as goal

pub returns : goal.returns
returns c =
    any_below (read_outside c.args.c.now.lines c.args.s c.args.n) c.args.c.now.lines.count _ _ c.any.result c.any.ensures.ran (λ x b q k. search (rules, tests))
