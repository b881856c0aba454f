-- A packet brings an atom what its setting looks at. Assumes nothing.
use Rattle.std.proofs.Common.{◌≡◌, ℕ, suc, ◌<◌, ◌≤◌, true, false, not, eqb, List, [], ◌∷◌, map, get_or, sym, refl, ap, ◌∙◌, subst, ⊎_elim, arith}
use Rattle.std.specs.List.{range_with_len}
use Rattle.std.proofs.lemmas.List.FromFn.{length-map-range_with_len, get_or-map-range_with_len}
use Rattle.std.proofs.lemmas.List.{get_or_past}
use Rattle.std.proofs.lemmas.Bool.{both_ways, and_parts, and_from, or_cases, or_left, or_right, not-true, eq-eqb, eqb-false, cases_eq, cases_lt}
use Rattle.graph.proofs.Paths.{path_to}
use Rattle.word.specs.Words.{Word}
use Rattle.meaning.specs.Serial.{Values}
use Rattle.lines.specs.declared.line.Source.{Source}
use Rattle.lines.specs.declared.line.Source.TheVariants.{Field, Line as Made, Constant}
use Rattle.lines.specs.declared.lines.Lines.{Lines}
use Rattle.lines.specs.Named.{any_of}
use Rattle.lines.specs.Layout.{is_line, reads_line, is_plain, sources_of}
use Rattle.lines.specs.Work.{makes}
use Rattle.lines.specs.Meaning.{worked_out, EachMakes}
use Rattle.line_graph.specs.Edges.{line_at, read_by, edge}
use Rattle.codelets.specs.Codelets.{is_named, read_of, write_of, InCodelet, in_codelet, Shares}
use Rattle.codelets.proofs.Paths.{codelet_decides, same_codelet, in_below}
use Rattle.codelets.proofs.InOrder.{unread, unwritten, read_below, read_line, write_below, write_line_lem}
use Rattle.codelets.proofs.Joining.{states_joined}
use Rattle.stages.specs.declared.limits.Limits.{Limits}
use Rattle.rows.specs.Makers.{Reads, atom as by_atom}
use Rattle.rows.proofs.Sorting.{makers_stand}
use Rattle.placement.specs.Placement.{stage_at, WellPlaced}
use Rattle.resolving.specs.declared.packet.Packet.{Packet}
use Rattle.resolving.specs.Codelets.{Words, Satisfies, is_inner as is_inner_in, makes as makes_in}
use Rattle.resolving.specs.Leaves.{is_old, is_leaf}
use Rattle.resolving.specs.Sameness.{undecided}
use Rattle.resolving.proofs.Undecided.{undecided_holds}
use Rattle.updates.specs.Inner.{is_inner, inner_of, update_of}
use Rattle.atoms.specs.Rightness.{Brings, Each, Carries, Right as RightSetting}
use Rattle.plans.specs.declared.plan.Plan.{Plan}
use Rattle.plans.specs.Updates.{codelet_of}
use Rattle.plans.specs.Pipeline.{lines_in}
use Rattle.plans.proofs.Sources.{value_as, makes_as}
use Rattle.plans.proofs.Carried.{worked_at, worked_read, Kept}

module _ (r : Lines) (s : ℕ) where
  inner_at : (n : ℕ) → n < 208 → get_or (inner_of r s) n false ≡ is_inner r s n
  inner_at n h = get_or-map-range_with_len (is_inner r s) 0 208 n n false h (omega arith)

  inner_past : (n : ℕ) → 208 ≤ n → get_or (inner_of r s) n false ≡ false
  inner_past n h = get_or_past (map (is_inner r s) (range_with_len 0 208)) n false (subst (λ x. x ≤ n) (sym (length-map-range_with_len (is_inner r s) 0 208)) h)

  inner_of_lem : (n : ℕ) → is_inner_in (codelet_of r s) n ≡ true → is_inner r s n ≡ true
  unfolding codelet_of
  inner_of_lem n e = ⊎_elim (λ h. sym (inner_at n h) ∙ e) (λ h. absurd (both_ways _ (inner_past n h) e)) (cases_lt n 208)

  -- a line that a line of the codelet reads, neither its read line nor inner, is outside
  outside_line : (Shares r s → ⊥) → (m i : ℕ) → InCodelet r s i → read_by r m i ≡ true → (m ≡ read_of r s → ⊥) → is_inner r s m ≡ false → InCodelet r s m → ⊥
  outside_line alone m i c x old inner d =
      ⊎_elim
      (λ (t, k, q). ⊎_elim (λ (e : t ≡ s). old (sym q ∙ ap (read_of r) e)) (λ ne. alone (t, ne, k, same_codelet r s t m d (subst (λ n. InCodelet r t n) q (states_joined r t k).read))) (cases_eq t s))
      (λ p. both_ways _ inner (and_from _ _ ((codelet_decides r s m).1 d) p))
      (unwritten r m (unread r m i (path_to r.count (edge r) c.from) x))

module _ (plus minus : ℕ → ℕ → ℕ) (limits : Limits) (plan : Plan) (placed : WellPlaced (lines_in plan) limits plan.placement) (v : Values) (k : ℕ) (row : Packet) (kept : Kept plus minus plan v k row) (s : ℕ) (named : is_named (lines_in plan) s ≡ true) (at : stage_at plan.placement (read_of (lines_in plan) s) ≡ suc k) where
  -- the values of the packet's fields and of all lines
  abbrev all : Packet
  all = record { fields = v.fields; lines = worked_out plus minus (lines_in plan) v }

  brings_line : (i : ℕ) → InCodelet (lines_in plan) s i → (m : ℕ) → read_by (lines_in plan) m i ≡ true → (m ≡ read_of (lines_in plan) s → ⊥) → is_inner (lines_in plan) s m ≡ false → get_or row.lines m 0 ≡ get_or all.lines m 0
  brings_line i c m x old inner =
      let reads : Reads (lines_in plan) m (read_of (lines_in plan) s) = by_atom m (read_of (lines_in plan) s) s i named refl c x (outside_line (lines_in plan) s (placed.owners.alone s) m i c x old inner) in
      let lt : stage_at plan.placement m < stage_at plan.placement (read_of (lines_in plan) s) = placed.earlier m (read_of (lines_in plan) s) reads in
      kept.lines m ((makers_stand (lines_in plan) m (read_of (lines_in plan) s)).maker reads) (omega arith)

  read_low : (i m : ℕ) → InCodelet (lines_in plan) s i → read_by (lines_in plan) m i ≡ true → m < 208
  read_low i m c x = omega (arith, unread (lines_in plan) m i (path_to (lines_in plan).count (edge (lines_in plan)) c.from) x, (lines_in plan).few)

  brings : (i : ℕ) → InCodelet (lines_in plan) s i → (a : Source) → ((m : ℕ) → is_line m a ≡ true → read_by (lines_in plan) m i ≡ true) → Brings (codelet_of (lines_in plan) s) all row a
  unfolding codelet_of
  brings i c (Field j) h e = kept.fields j
  brings i c (Constant w) h e = refl
  brings i c (Made m) h e =
      let x : read_by (lines_in plan) m i ≡ true = h m (eq-eqb m m refl) in
      let p = and_parts (is_leaf (codelet_of (lines_in plan) s) (Made m)) (not (is_old (codelet_of (lines_in plan) s) (Made m))) e in
      let old : eqb m (read_of (lines_in plan) s) ≡ false = not-true _ p.1 in
      let inner : get_or (inner_of (lines_in plan) s) m false ≡ false = ⊎_elim (λ o. absurd (both_ways _ old o)) (λ u. not-true _ u) (or_cases (eqb m (read_of (lines_in plan) s)) (not (get_or (inner_of (lines_in plan) s) m false)) p.0) in
      brings_line i c m x (eqb-false m (read_of (lines_in plan) s) old) (sym (inner_at (lines_in plan) s m (read_low i m c x)) ∙ inner)

  brings_each : (i : ℕ) → InCodelet (lines_in plan) s i → (reads : List Source) → ((m : ℕ) → any_of (is_line m) reads ≡ true → read_by (lines_in plan) m i ≡ true) → Each (Brings (codelet_of (lines_in plan) s) all row) reads
  brings_each i c [] h = tt
  brings_each i c (a ∷ reads) h = (brings i c a (λ m e. h m (or_left _ _ e)), brings_each i c reads (λ m e. h m (or_right (is_line m a) _ e)))

  write_reads : (m : ℕ) → is_line m (update_of (lines_in plan) s) ≡ true → read_by (lines_in plan) m (write_of (lines_in plan) s) ≡ true
  write_reads m e = ap (reads_line m) (write_line_lem (lines_in plan) s named) ∙ or_left _ _ e

  brings_inner : (n : ℕ) → is_inner_in (codelet_of (lines_in plan) s) n ≡ true → Each (Brings (codelet_of (lines_in plan) s) all row) (sources_of (line_at (lines_in plan) n))
  brings_inner n e =
      let c = (and_parts (in_codelet (lines_in plan) s n) (is_plain (line_at (lines_in plan) n)) (inner_of_lem (lines_in plan) s n e)).0 in
      brings_each n ((codelet_decides (lines_in plan) s n).0 c) (sources_of (line_at (lines_in plan) n)) (λ m q. q)

  carries : Carries (codelet_of (lines_in plan) s) (update_of (lines_in plan) s) all row
  unfolding codelet_of
  carries = record {
    written = brings (write_of (lines_in plan) s) (states_joined (lines_in plan) s named).write (update_of (lines_in plan) s) write_reads;
    inner = brings_inner;
  }

  module _ (each : EachMakes (lines_in plan)) where
    satisfies_inner : (n : ℕ) → is_inner_in (codelet_of (lines_in plan) s) n ≡ true → get_or all.lines n 0 ≡ makes_in plus minus all (get_or v.words s 0) (line_at (lines_in plan) n)
    satisfies_inner n e =
        let p = and_parts (in_codelet (lines_in plan) s n) (is_plain (line_at (lines_in plan) n)) (inner_of_lem (lines_in plan) s n e) in
        worked_at plus minus (lines_in plan) v each n (in_below (lines_in plan) s n p.0) ∙ makes_as plus minus v (worked_out plus minus (lines_in plan) v) (get_or v.words s 0) (line_at (lines_in plan) n) p.1

    satisfies : Satisfies plus minus (codelet_of (lines_in plan) s) (get_or v.words s 0) all
    unfolding codelet_of
    satisfies = record {
      inner = satisfies_inner;
      reads = worked_read plus minus (lines_in plan) v each s (read_of (lines_in plan) s) (read_below (lines_in plan) s named) (read_line (lines_in plan) s named);
    }

    -- a right setting makes what the write line takes
    pub setting_makes : (ran : List ℕ → ℕ → Packet → ℕ) (setting : List ℕ) → RightSetting plus minus ran (codelet_of (lines_in plan) s) undecided (update_of (lines_in plan) s) setting → Words all → Word (get_or v.words s 0) → ran setting (get_or v.words s 0) row ≡ get_or (worked_out plus minus (lines_in plan) v) (write_of (lines_in plan) s) 0
    unfolding RightSetting
    setting_makes ran setting right words old =
        right (get_or v.words s 0) all row old words satisfies (undecided_holds all) carries
        ∙ (sym (value_as all (update_of (lines_in plan) s))
        ∙ (sym (ap (makes plus minus v (worked_out plus minus (lines_in plan) v)) (write_line_lem (lines_in plan) s named))
        ∙ sym (worked_at plus minus (lines_in plan) v each (write_of (lines_in plan) s) (write_below (lines_in plan) s named))))
