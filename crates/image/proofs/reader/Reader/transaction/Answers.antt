use Rattle.std.proofs.Common.{take, sym}
use Rattle.image.proofs.AcceptsWritten.{within_to}
use Rattle.image.proofs.WrittenStatements.{table_sound}
use Rattle.image.proofs.reader.Reader.transaction.Goals as goal

pub invariant_of-result : goal.invariant_of-result
invariant_of-result c =
    let a = c.within.new.self in
    let b = c.within-2.new.self in
    let d = c.within-3.new.self in
    let e = c.within-4.new.self in
    let f = within_to 1 16 a.bytes.now (sym c.in_ok-fields.ensures.read) in
    let s = within_to 0 8 b.bytes.now (sym c.in_ok-states.ensures.read) in
    let n = within_to 0 48 d.bytes.now (sym c.in_ok-count.ensures.read) in
    let table = c.in_ok-statements.ensures in
    let t = table_sound c.in_ok-count.count c.in_ok-fields.fields c.in_ok-states.states e.bytes.now e.offset (take c.in_ok-count.count c.in_ok-statements.statements) c.statements.new.self.offset table.reads.read in
    record { some_field = f.1; few_fields = f.2; few_states = s.2; few_statements = n.2; long = table.long; in_place = t.0; well_nested = t.1 }
