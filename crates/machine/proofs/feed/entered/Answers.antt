use Rattle.std.proofs.Common.{ℕ, List, get_or, replicate, ap, rules}
use Rattle.std.proofs.lemmas.List.FromFn.{fill_by_all}
use Rattle.resolving.specs.declared.packet.Packet.{Packet}
use Rattle.word.proofs.Made.{made_at}
use Rattle.machine.proofs.feed.entered.Goals as goal

pub returns : goal.returns
returns c =
    let field : ℕ → ℕ = λ i. get_or c.args.fields.now i 0 in
    let each = made_at _ _ field 16 (λ i y q lt k. search rules) c.from_fn.result 0 c.from_fn.ensures.items in
    ap {B = Packet} (λ (l : List ℕ). record { fields = l; lines = replicate 208 0 }) (fill_by_all field c.from_fn.result 16 0 c.from_fn.ensures.items.long each)
