use Rattle.std.proofs.Common.{◌≡◌, ℕ, ◌<◌, get_or, replicate, Some, None, sym, refl, subst, arith, rules}
use Rattle.std.proofs.lemmas.List.{get_or-replicate}
use Rattle.stages.specs.Filling.{stage_of, stage_count, width}
use Rattle.stages.proofs.NextRow.{Least, least}
use Rattle.stages.proofs.Places.{well_staged}
use Rattle.stages.proofs.Progress.{begin, turn, fewer, room_left, all_placed, all_counted}
use Rattle.stages.proofs.filling.layout.Goals as goal

pub loop-next-init : goal.loop-next-init
loop-next-init c =
    begin c.args.nodes.now c.args.limits.now.lines c.args.limits.now.atoms c.args.limits.now.some_line c.args.limits.now.some_atom c.row_after-next.result (replicate 208 0) (subst (Least c.args.nodes.now None 208) (sym c.row_after-next.ensures) (least c.args.nodes.now None 208)) refl (λ k lt. get_or-replicate 208 k 0 0 lt)

pub place_row-requires : goal.place_row-requires
place_row-requires c =
    omega (arith, room_left c.args.nodes.now c.args.limits.now.lines c.args.limits.now.atoms c.args.limits.now.some_line c.args.limits.now.some_atom c.in-Some.row c.loop-next.needed (width c.args.nodes.now c.args.limits.now.lines c.args.limits.now.atoms c.in-Some.row) c.loop-next.next c.loop-next.stage_of c.loop-next.invariant c.in-Some.is refl)

pub overflow_add-needed : goal.overflow_add-needed
overflow_add-needed c =
    omega (arith, room_left c.args.nodes.now c.args.limits.now.lines c.args.limits.now.atoms c.args.limits.now.some_line c.args.limits.now.some_atom c.in-Some.row c.loop-next.needed c.width-needed.result c.loop-next.next c.loop-next.stage_of c.loop-next.invariant c.in-Some.is c.width-needed.ensures)

pub loop-next-preserved : goal.loop-next-preserved
loop-next-preserved c =
    turn c.args.nodes.now c.args.limits.now.lines c.args.limits.now.atoms c.args.limits.now.some_line c.args.limits.now.some_atom c.in-Some.row c.loop-next.needed c.width-needed.result c.loop-next.next c.row_after-next-in-Some.result c.loop-next.stage_of c.place_row.new.stage_of c.loop-next.invariant c.in-Some.is (subst (Least c.args.nodes.now (Some c.in-Some.row) 208) (sym c.row_after-next-in-Some.ensures) (least c.args.nodes.now (Some c.in-Some.row) 208)) c.width-needed.ensures (search rules) c.place_row.ensures

pub loop-next-smaller : goal.loop-next-smaller
loop-next-smaller c =
    fewer c.args.nodes.now c.args.limits.now.lines c.args.limits.now.atoms c.args.limits.now.some_line c.args.limits.now.some_atom c.in-Some.row c.loop-next.needed c.loop-next.next c.row_after-next-in-Some.result c.loop-next.stage_of c.loop-next.invariant c.in-Some.is (subst (Least c.args.nodes.now (Some c.in-Some.row) 208) (sym c.row_after-next-in-Some.ensures) (least c.args.nodes.now (Some c.in-Some.row) 208))

pub returns : goal.returns
returns c =
    let each : (n : ℕ) → n < 208 → get_or c.loop-next.stage_of n 0 ≡ stage_of c.args.nodes.now c.args.limits.now.lines c.args.limits.now.atoms n = all_placed c.args.nodes.now c.args.limits.now.lines c.args.limits.now.atoms c.args.limits.now.some_line c.args.limits.now.some_atom c.loop-next.needed c.loop-next.next c.loop-next.stage_of c.loop-next.invariant c.in_default.is in
    let all = all_counted c.args.nodes.now c.args.limits.now.lines c.args.limits.now.atoms c.args.limits.now.some_line c.args.limits.now.some_atom c.loop-next.needed c.loop-next.next c.loop-next.stage_of c.loop-next.invariant c.in_default.is in
    let count : c.max.result ≡ stage_count c.args.nodes.now c.args.limits.now.lines c.args.limits.now.atoms = omega arith in
    record {
      each = each;
      count = count;
      well = well_staged c.args.nodes.now c.args.limits.now.lines c.args.limits.now.atoms c.args.limits.now.some_line c.args.limits.now.some_atom c.loop-next.stage_of c.max.result each count;
    }
