use Rattle.std.proofs.Common.{sym, ◌∙◌}
use Rattle.image.proofs.Numbers.{unended}
use Rattle.image.proofs.reader.Reader.number.Goals as goal

pub returns : goal.returns
returns c =
    let h = c.loop-k.invariant in
    record { bytes = h.bytes; read = sym (h.so_far ∙ unended _ _ _ _ _ (λ some. (c.in-None.ensures.steps.0 some).0) h.few) }
