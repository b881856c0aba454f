use Rattle.std.proofs.Common.{rules, sym, ◌∙◌, tests}
use Rattle.std.proofs.lemmas.Iterator.{YieldsList-from_slice}
use Rattle.std.proofs.lemmas.Iterator.Search.{any_from_yields_List}
use Rattle.transaction.specs.Programs.{statements_of}
use Rattle.lines.specs.Named.{names}
use Rattle.lines.proofs.Naming.{any_of-list_any}
use Rattle.lines.proofs.named.is_named.Goals as goal

pub returns : goal.returns
returns c =
    any_from_yields_List (names c.args.s) _ _ _ c.any.ensures.ran (YieldsList-from_slice (statements_of c.args.t.now) cc) (λ x b q k. search (rules, tests)) ∙ sym (any_of-list_any (names c.args.s) (statements_of c.args.t.now))
