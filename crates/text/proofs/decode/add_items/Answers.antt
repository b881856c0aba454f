-- The steps of the loop, and its exits.
use Rattle.std.proofs.Common.{◌≡◌, length, vec_items, arith}
use Rattle.std.proofs.lemmas.Result.{err_from_is_err_and}
use Rattle.text.proofs.Readings.{goes_on, stops, ends, stops_at_end}
use Rattle.text.proofs.decode.add_items.Goals as goal

pub loop-column-preserved : goal.loop-column-preserved
loop-column-preserved g c =
    goes_on g.T.Notation.stepped c.loop-column.begun c.loop-column.column (vec_items c.loop-column.items) c.args.line.now _ c.loop-column.invariant c.loop-column-test.true c.step.result c.step.ensures c.in_ok-begun.begun (vec_items c.carry_out.new.items) c.in_ok-begun.ensures

pub returns-in_err-begun : goal.returns-in_err-begun
returns-in_err-begun g c =
    let p = err_from_is_err_and c.from_residual.result c.from_residual.ensures.1 in
    let fault =
    stops g.T.Notation.stepped c.loop-column.begun c.loop-column.column (vec_items c.loop-column.items) c.args.line.now _ c.loop-column.invariant c.loop-column-test.true c.step.result c.step.ensures c.in_err-begun.field-0.0 (vec_items c.carry_out.new.items) c.in_err-begun.ensures in
    rw (p.1, p.2) fault

pub returns : goal.returns
returns g c =
    let same : length c.args.line.now ≡ c.loop-column.column = omega arith in
    ends g.T.Notation.stepped c.loop-column.begun c.loop-column.column (vec_items c.loop-column.items) c.args.line.now _ c.loop-column.invariant same c.step-2.result c.step-2.ensures _ (vec_items c.carry_out-2.new.items) c.in_ok-carry_out.ensures

pub returns-in_err-carry_out : goal.returns-in_err-carry_out
returns-in_err-carry_out g c =
    let p = err_from_is_err_and c.from_residual-in_err-carry_out.result c.from_residual-in_err-carry_out.ensures.1 in
    let same : length c.args.line.now ≡ c.loop-column.column = omega arith in
    let fault =
    stops_at_end g.T.Notation.stepped c.loop-column.begun c.loop-column.column (vec_items c.loop-column.items) c.args.line.now _ c.loop-column.invariant same c.step-2.result c.step-2.ensures c.in_err-carry_out.field-0.0 (vec_items c.carry_out-2.new.items) c.in_err-carry_out.ensures in
    rw (p.1, p.2) fault
