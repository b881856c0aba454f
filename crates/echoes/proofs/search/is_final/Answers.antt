-- What `any` finds among the final values.
use Rattle.std.proofs.Common.{sym, ◌∙◌, rules, tests}
use Rattle.std.proofs.lemmas.Iterator.{YieldsList-from_slice}
use Rattle.std.proofs.lemmas.Iterator.Search.{any_from_yields_List}
use Rattle.lines.specs.Layout.{is_line}
use Rattle.lines.proofs.Naming.{any_of-list_any}
use Rattle.echoes.proofs.search.is_final.Goals as goal

pub returns : goal.returns
returns c =
    any_from_yields_List (is_line c.args.n) _ _ c.any.result c.any.ensures.ran (YieldsList-from_slice c.args.lines.now.finals cc) (λ x b q k. search (rules, tests)) ∙ sym (any_of-list_any (is_line c.args.n) c.args.lines.now.finals)
