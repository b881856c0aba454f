-- A packet at the exit carries the final values of its fields. Assumes nothing.
use Rattle.std.proofs.Common.{◌≡◌, ℕ, ◌<◌, true, false, map, length, get_or, take, is_some, ap, ⊎_elim, arith}
use Rattle.std.proofs.lemmas.Bool.{and_from, cases_Bool}
use Rattle.meaning.specs.Serial.{Values}
use Rattle.lines.specs.declared.line.Source.TheVariants.{Constant as Fixed}
use Rattle.lines.specs.declared.lines.Lines.{Lines}
use Rattle.lines.specs.Layout.{is_line, is_plain}
use Rattle.lines.specs.Exact.{InOrder, first_write}
use Rattle.lines.specs.Meaning.{worked_out}
use Rattle.lines.specs.Work.{value_of}
use Rattle.line_graph.specs.Edges.{line_at}
use Rattle.codelets.specs.Inner.{owned}
use Rattle.echoes.specs.Echoes.{is_final, ends}
use Rattle.echoes.proofs.Least.{any_one}
use Rattle.codelets.proofs.InOrder.{unwritten}
use Rattle.stages.specs.declared.limits.Limits.{Limits}
use Rattle.rows.specs.Sorts.{is_node}
use Rattle.rows.proofs.Sorting.{sorts_stand}
use Rattle.placement.specs.Placement.{WellPlaced}
use Rattle.resolving.specs.declared.packet.Packet.{Packet as Row}
use Rattle.plans.specs.declared.plan.Plan.{Plan}
use Rattle.plans.specs.Pipeline.{lines_in, leaving_with}
use Rattle.plans.proofs.Sources.{same_source, same_mapped}
use Rattle.plans.proofs.Carried.{Kept, node_last}

-- the line that a final value is has a node
final_node : (r : Lines) → InOrder r → (i m : ℕ) → i < length r.finals → is_line m (get_or r.finals i (Fixed 0)) ≡ true → is_node r m ≡ true
final_node r order i m h e =
    ⊎_elim (λ (s, k, q). ap is_some ((sorts_stand r m).atom.0 s k q)) plain (unwritten r m low)
  where
    low : m < first_write r
    low = order.finals i m e

    final : is_final r m ≡ true
    final = any_one (is_line m) r.finals i (Fixed 0) h e

    plain : is_plain (line_at r m) ≡ true → is_node r m ≡ true
    plain p =
        ⊎_elim
        (λ (o : owned r m ≡ true). ap is_some ((sorts_stand r m).echo.0 (ends m (and_from _ _ o p) final)))
        (λ (o : owned r m ≡ false). ap is_some ((sorts_stand r m).line.0 (omega (arith, low), o)))
        (cases_Bool (owned r m))

pub leaving_kept : (plus minus : ℕ → ℕ → ℕ) (limits : Limits) (plan : Plan) → WellPlaced (lines_in plan) limits plan.placement → InOrder (lines_in plan) → (v : Values) (row : Row) → Kept plus minus plan v plan.placement.stages.count row → leaving_with plan row ≡ map (value_of v.fields (worked_out plus minus (lines_in plan) v)) (take plan.transaction.fields (lines_in plan).finals)
leaving_kept plus minus limits plan placed order v row kept =
    same_mapped (value_of row.fields row.lines) (value_of v.fields (worked_out plus minus (lines_in plan) v)) plan.transaction.fields (lines_in plan).finals each
  where
    each : (i : ℕ) → i < length (lines_in plan).finals → value_of row.fields row.lines (get_or (lines_in plan).finals i (Fixed 0)) ≡ value_of v.fields (worked_out plus minus (lines_in plan) v) (get_or (lines_in plan).finals i (Fixed 0))
    each i h =
        same_source row.fields v.fields row.lines (worked_out plus minus (lines_in plan) v) (get_or (lines_in plan).finals i (Fixed 0)) kept.fields
        (λ m e. let node = final_node (lines_in plan) order i m h e in kept.lines m node (node_last limits plan placed m node))
