use Rattle.std.proofs.Common.{◌≡◌, ◌-◌, ◌<◌, length, sym, ◌∙◌, arith, length-set}
use Rattle.std.proofs.lemmas.Bool.Decides.{nat_tests}
use Rattle.image.proofs.Tables.{one, left_open}
use Rattle.image.proofs.reader.Reader.statements.Goals as goal

pub loop-i-preserved : goal.loop-i-preserved
loop-i-preserved c =
    let i = c.loop-i.invariant in
    let h = c.in_ok-kind.ensures in
    let t = c.if-not-enter.ensures in
    let r = c.in_ok-table.ensures in
    record {
      bytes = r.bytes ∙ h.bytes ∙ i.bytes;
      long = length-set _ _ _ ∙ i.long;
      so_far = i.so_far ∙ one c.args.count c.loop-i.i _ _ _ _ _ (omega arith) _ _ h.read _ _ _ _ _ _ (omega arith) h.bytes r.bytes t.answer t.opens r.read;
    }

pub returns-then-not-is_empty-clause-reads : goal.returns-then-not-is_empty-clause-reads
returns-then-not-is_empty-clause-reads c =
    let done : c.args.count - c.loop-i.i ≡ 0 = omega arith in
    let some : 0 < length c.open_ifs.result.now = grind (arith, nat_tests) in
    let i = c.loop-i.invariant in
    record { bytes = i.bytes; read = sym (i.so_far ∙ left_open _ _ _ _ _ _ _ _ done c.open_ifs.ensures some) }
