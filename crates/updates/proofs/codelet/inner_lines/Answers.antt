use Rattle.std.proofs.Common.{false, rules}
use Rattle.std.proofs.lemmas.List.FromFn.{fill_by_all}
use Rattle.updates.specs.Inner.{is_inner}
use Rattle.word.proofs.Made.{made_at}
use Rattle.updates.proofs.codelet.inner_lines.Goals as goal

pub returns : goal.returns
returns c =
    let p = is_inner c.args.codelets.now.lines c.args.s in
    let items = c.from_fn.ensures.items in
    fill_by_all p c.from_fn.result 208 false items.long (made_at _ _ p 208 (λ n y q h call. search rules) c.from_fn.result false items)
