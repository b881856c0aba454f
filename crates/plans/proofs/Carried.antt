-- What a packet carries at each place: the values that the lines have, worked out one after another. Assumes nothing.
use Rattle.std.proofs.Common.{◌≡◌, ℕ, suc, ◌<◌, ◌≤◌, true, false, List, map, length, get_or, take, is_some, sym, refl, ap, ◌∙◌, subst, ⊎_elim, arith, length-take-le}
use Rattle.std.specs.List.{range_with_len}
use Rattle.std.proofs.lemmas.List.{get_or-take, get_or_past, length-replicate}
use Rattle.std.proofs.lemmas.List.FromFn.{length-map-range_with_len, get_or-map-range_with_len}
use Rattle.std.proofs.lemmas.Bool.{and_from, cases_lt, cases_eq, eq-eqb, ne_eqb, cond-true, cond-false}
use Rattle.meaning.specs.Serial.{Values, values}
use Rattle.lines.specs.declared.line.Line.TheVariants.{Read}
use Rattle.lines.specs.declared.lines.Lines.{Lines}
use Rattle.lines.specs.Layout.{reads_line}
use Rattle.lines.specs.Meaning.{worked_out, EachMakes}
use Rattle.lines.specs.Work.{makes}
use Rattle.line_graph.specs.Edges.{line_at}
use Rattle.codelets.specs.Codelets.{is_named, read_of}
use Rattle.codelets.proofs.Joining.{read_of_lem}
use Rattle.stages.specs.declared.limits.Limits.{Limits}
use Rattle.rows.specs.Sorts.{is_node, is_read}
use Rattle.rows.specs.Makers.{Reads}
use Rattle.rows.proofs.Sorting.{as_line, node_is_line, sorts_stand, makers_stand}
use Rattle.placement.specs.Placement.{stage_at, WellPlaced}
use Rattle.resolving.specs.declared.packet.Packet.{Packet as Row}
use Rattle.plans.specs.declared.plan.Plan.{Plan}
use Rattle.plans.specs.Pipeline.{lines_in, entered, made_at, stage_work}
use Rattle.plans.proofs.Filling.{work_long, work_at}
use Rattle.plans.proofs.Sources.{read_or_not, same_made}

-- each line has the value that it makes of the values
pub worked_at : (plus minus : ℕ → ℕ → ℕ) (r : Lines) (v : Values) → EachMakes r → (n : ℕ) → n < r.count → get_or (worked_out plus minus r v) n 0 ≡ makes plus minus v (worked_out plus minus r v) (line_at r n)
worked_at plus minus r v each n h =
    let long : length (take r.count r.lines) ≡ r.count = length-take-le r.count r.lines (omega (arith, r.few, r.lines_long)) in
    each.satisfied plus minus v n (subst (λ x. n < x) (sym long) h) ∙ ap (makes plus minus v (worked_out plus minus r v)) (get_or-take r.count r.lines n (Read 0) h)

-- a read line has the old word
pub worked_read : (plus minus : ℕ → ℕ → ℕ) (r : Lines) (v : Values) → EachMakes r → (s n : ℕ) → n < r.count → line_at r n ≡ Read s → get_or (worked_out plus minus r v) n 0 ≡ get_or v.words s 0
worked_read plus minus r v each s n h e = worked_at plus minus r v each n h ∙ ap (makes plus minus v (worked_out plus minus r v)) e

-- a named state's atom is a node
pub atom_node : (r : Lines) (s : ℕ) → is_named r s ≡ true → is_node r (read_of r s) ≡ true
atom_node r s k = ap is_some ((sorts_stand r (read_of r s)).atom.0 s k refl)

module _ (limits : Limits) (plan : Plan) (placed : WellPlaced (lines_in plan) limits plan.placement) where
  node_low : (n : ℕ) → is_node (lines_in plan) n ≡ true → n < 208
  node_low n e = omega (arith, node_is_line (lines_in plan) n e, (lines_in plan).few)

  pub node_first : (n : ℕ) → is_node (lines_in plan) n ≡ true → 1 ≤ stage_at plan.placement n
  node_first n e = placed.filled.first n (node_low n e) (ap is_some (placed.rows.nodes n) ∙ e)

  pub node_last : (n : ℕ) → is_node (lines_in plan) n ≡ true → stage_at plan.placement n ≤ plan.placement.stages.count
  node_last n e = placed.filled.last n (node_low n e) (ap is_some (placed.rows.nodes n) ∙ e)

-- at place k a packet that meets v carries its fields, and the values of the nodes up to stage k
pub record Kept (plus minus : ℕ → ℕ → ℕ) (plan : Plan) (v : Values) (k : ℕ) (row : Row) : Type 0 where
  pub fields : (i : ℕ) → get_or row.fields i 0 ≡ get_or v.fields i 0
  pub long : length row.lines ≡ 208
  pub lines : (n : ℕ) → is_node (lines_in plan) n ≡ true → stage_at plan.placement n ≤ k → get_or row.lines n 0 ≡ get_or (worked_out plus minus (lines_in plan) v) n 0

same_fields : (fs : List ℕ) → length fs ≤ 16 → (i : ℕ) → get_or (entered fs).fields i 0 ≡ get_or fs i 0
same_fields fs few i =
    ⊎_elim
    (λ h. get_or-map-range_with_len (λ j. get_or fs j 0) 0 16 i i 0 h (omega arith))
    (λ h. get_or_past (map (λ j. get_or fs j 0) (range_with_len 0 16)) i 0 (subst (λ x. x ≤ i) (sym (length-map-range_with_len (λ j. get_or fs j 0) 0 16)) h) ∙ sym (get_or_past fs i 0 (omega arith)))
    (cases_lt i 16)

module _ (plus minus : ℕ → ℕ → ℕ) (limits : Limits) (plan : Plan) (placed : WellPlaced (lines_in plan) limits plan.placement) (v : Values) where
  pub kept_entered : length v.fields ≤ 16 → Kept plus minus plan v 0 (entered v.fields)
  kept_entered few = record {
    fields = same_fields v.fields few;
    long = length-replicate {A = ℕ} 208 0;
    lines = λ n e h. absurd (omega (arith, node_first limits plan placed n e));
  }

  module _ (each : EachMakes (lines_in plan)) (k : ℕ) (row : Row) (ws : List ℕ) (kept : Kept plus minus plan v k row) (finds : (s : ℕ) → is_named (lines_in plan) s ≡ true → stage_at plan.placement (read_of (lines_in plan) s) ≡ suc k → get_or ws s 0 ≡ get_or v.words s 0) where
    -- what a node of the next stage makes
    made_next : (n : ℕ) → is_node (lines_in plan) n ≡ true → stage_at plan.placement n ≡ suc k → made_at plus minus plan row ws n ≡ get_or (worked_out plus minus (lines_in plan) v) n 0
    made_next n node at = ⊎_elim atom other (read_or_not (line_at (lines_in plan) n))
      where
        low : n < (lines_in plan).count
        low = node_is_line (lines_in plan) n node

        atom : (s : ℕ) × (line_at (lines_in plan) n ≡ Read s) → made_at plus minus plan row ws n ≡ get_or (worked_out plus minus (lines_in plan) v) n 0
        atom (s, e) =
            let (named, q) = read_of_lem (lines_in plan) s n low e in
            ap (makes plus minus (values row.fields ws) row.lines) e
            ∙ (finds s named (ap (stage_at plan.placement) q ∙ at) ∙ sym (worked_read plus minus (lines_in plan) v each s n low e))

        other : is_read (line_at (lines_in plan) n) ≡ false → made_at plus minus plan row ws n ≡ get_or (worked_out plus minus (lines_in plan) v) n 0
        other u =
            same_made plus minus (values row.fields ws) v row.lines (worked_out plus minus (lines_in plan) v) kept.fields (line_at (lines_in plan) n) u reads
            ∙ sym (worked_at plus minus (lines_in plan) v each n low)
          where
            reads : (m : ℕ) → reads_line m (line_at (lines_in plan) n) ≡ true → get_or row.lines m 0 ≡ get_or (worked_out plus minus (lines_in plan) v) m 0
            reads m q =
                let x : Reads (lines_in plan) m n = (makers_stand (lines_in plan) m n).reads.0 (and_from _ _ node (as_line (lines_in plan) m (line_at (lines_in plan) n) u ∙ q)) in
                let lt : stage_at plan.placement m < stage_at plan.placement n = placed.earlier m n x in
                kept.lines m ((makers_stand (lines_in plan) m n).maker x) (omega arith)

    pub kept_worked : Kept plus minus plan v (suc k) (stage_work plus minus plan (suc k) row ws)
    kept_worked = record {
      fields = kept.fields;
      long = work_long plus minus plan (suc k) row ws ∙ kept.long;
      lines = lines;
    }
      where
        lines : (n : ℕ) → is_node (lines_in plan) n ≡ true → stage_at plan.placement n ≤ suc k → get_or (stage_work plus minus plan (suc k) row ws).lines n 0 ≡ get_or (worked_out plus minus (lines_in plan) v) n 0
        lines n node le =
            work_at plus minus plan (suc k) row ws n (node_low limits plan placed n node) kept.long
            ∙ ⊎_elim
            (λ (e : stage_at plan.placement n ≡ suc k). cond-true _ (made_at plus minus plan row ws n) (get_or row.lines n 0) (eq-eqb (stage_at plan.placement n) (suc k) e) ∙ made_next n node e)
            (λ (ne : stage_at plan.placement n ≡ suc k → ⊥). cond-false _ (made_at plus minus plan row ws n) (get_or row.lines n 0) (ne_eqb (stage_at plan.placement n) (suc k) ne) ∙ kept.lines n node (omega arith))
            (cases_eq (stage_at plan.placement n) (suc k))
