-- Stages depend on nodes and on the rows of nodes, and on nothing else. Assumes nothing.
use Rattle.std.proofs.Common.{◌≡◌, ℕ, zero, suc, ◌+◌, ◌/◌, ◌<◌, ◌≤◌, max, Bool, true, false, cond, ◌&&◌, eqb, ltb, ◌⊎◌, List, get_or, is_some, Some, None, Option, sym, refl, ap, ◌∙◌, ap₂, inl, inr, ⊎_elim, arith}
use Rattle.std.proofs.lemmas.Bool.{cases_Bool, false≢true}
use Rattle.std.proofs.lemmas.List.FromFn.{get_or-map-range_with_len}
use Rattle.lines.specs.declared.lines.Lines.{Lines}
use Rattle.stages.specs.declared.node.Node.{Node}
use Rattle.stages.specs.declared.node.Nodes.{Nodes}
use Rattle.stages.specs.declared.node.Slot.{Slot}
use Rattle.stages.specs.declared.node.Slot.TheVariants.{Stateless, Stateful}
use Rattle.stages.specs.Filling.{highest, ceiling, slot_of, takes, room, node_at, is_node, row_of, in_row, width, below, placed, stage_of, stage_count}
use Rattle.stages.proofs.Counts.{tally_same}
use Rattle.stages.proofs.Widths.{below_zero, below_suc, highest_zero, highest_suc}
use Rattle.rows.specs.Sorts.{sort_of}
use Rattle.rows.specs.Rows.{row_of as row_in}
use Rattle.rows.specs.Placed.{Placed}
use Rattle.rows.proofs.Sorting.{rows_stand}
use Rattle.compiler.specs.Verdict.{nodes_of, needed}

module _ (x y : Nodes) (same : (n : ℕ) → n < 208 → node_at x n ≡ node_at y n) (rows : (n : ℕ) → n < 208 → is_node x n ≡ true → row_of x n ≡ row_of y n) where
  no_slot : (slot : Slot) (o : Option Node) → is_some o ≡ false → takes slot o ≡ false
  no_slot slot None e = refl
  no_slot slot (Some v) e = absurd (false≢true (sym e))

  in_row_lem : (slot : Slot) (r n : ℕ) → n < 208 → in_row x slot r n ≡ in_row y slot r n
  in_row_lem slot r n h =
      ⊎_elim
      (λ on. ap₂ {C = Bool} (λ (o : Option Node) (k : ℕ). takes slot o && eqb k r) (same n h) (rows n h on))
      (λ off. ap {B = Bool} (λ b. b && eqb (row_of x n) r) (no_slot slot (node_at x n) off) ∙ sym (ap {B = Bool} (λ b. b && eqb (row_of y n) r) (no_slot slot (node_at y n) (ap {B = Bool} is_some (sym (same n h)) ∙ off))))
      (cases_Bool (is_node x n))

  width_same : (P Q r : ℕ) → width x P Q r ≡ width y P Q r
  width_same P Q r =
      ap₂ {C = ℕ} (λ a b. max (ceiling a P) (ceiling b Q)) (tally_same 208 _ _ (in_row_lem Stateless r)) (tally_same 208 _ _ (in_row_lem Stateful r))

  below_same : (P Q r : ℕ) → below x P Q r ≡ below y P Q r
  below_same P Q zero = below_zero x P Q ∙ sym (below_zero y P Q)
  below_same P Q (suc r) =
      below_suc x P Q r ∙ ap₂ {C = ℕ} ◌+◌ (below_same P Q r) (width_same P Q r) ∙ sym (below_suc y P Q r)

  highest_same : (n : ℕ) → n ≤ 208 → highest n (is_node x) (row_of x) ≡ highest n (is_node y) (row_of y)
  highest_same zero h = highest_zero _ _ ∙ sym (highest_zero _ _)
  highest_same (suc n) h = highest_suc n _ _ ∙ ap₂ {C = ℕ} max (here (cases_Bool (is_node x n))) (highest_same n (omega arith)) ∙ sym (highest_suc n _ _)
    where
      sort : is_node x n ≡ is_node y n
      sort = ap {B = Bool} is_some (same n (omega arith))

      here : (is_node x n ≡ true) ⊎ (is_node x n ≡ false) → cond (is_node x n) (row_of x n) 0 ≡ cond (is_node y n) (row_of y n) 0
      here (inl on) = ap₂ {C = ℕ} (λ b k. cond b k 0) sort (rows n (omega arith) on)
      here (inr off) = ap {B = ℕ} (λ b. cond b (row_of x n) 0) off ∙ sym (ap {B = ℕ} (λ b. cond b (row_of y n) 0) (sym sort ∙ off))

  pub count_same : (P Q : ℕ) → stage_count x P Q ≡ stage_count y P Q
  count_same P Q =
      ap {B = ℕ} (max 1) (below_same P Q (highest 208 (is_node x) (row_of x) + 1) ∙ ap {B = ℕ} (λ k. below y P Q (k + 1)) (highest_same 208 (omega arith)))

  placed_same : (P Q n : ℕ) (o : Option Node) → n < 208 → node_at x n ≡ o → placed x P Q (below x P Q (row_of x n)) n o ≡ placed y P Q (below y P Q (row_of y n)) n o
  placed_same P Q n None h e = refl
  placed_same P Q n (Some v) h e =
      let row : row_of x n ≡ row_of y n = rows n h (ap {B = Bool} is_some e) in
      ap₂ {C = ℕ} (λ a b. (a + 1) + b / room P Q (slot_of v)) (below_same P Q (row_of x n) ∙ ap {B = ℕ} (below y P Q) row) (tally_same 208 _ _ (λ m k. ap {B = Bool} (λ b. ltb m n && b) (in_row_lem (slot_of v) (row_of x n) m k ∙ ap {B = Bool} (λ q. in_row y (slot_of v) q m) row)))

  pub stage_same : (P Q n : ℕ) → n < 208 → stage_of x P Q n ≡ stage_of y P Q n
  stage_same P Q n h = placed_same P Q n (node_at x n) h refl ∙ ap {B = ℕ} (placed y P Q (below y P Q (row_of y n)) n) (same n h)

-- the tables that were worked out come to the same as the definitions' own
module _ (r : Lines) (sorts : List (Option Node)) (rows : List ℕ) (p : Placed r sorts rows) where
  sorts_same : (n : ℕ) → n < 208 → get_or sorts n None ≡ node_at (nodes_of r) n
  sorts_same n h = p.nodes n ∙ sym (get_or-map-range_with_len (sort_of r) 0 208 n n None h (omega arith))

  rows_same : (n : ℕ) → n < 208 → is_some (get_or sorts n None) ≡ true → get_or rows n 0 ≡ row_of (nodes_of r) n
  rows_same n h e =
      (rows_stand r).only (λ m. get_or rows m 0) (λ m k. p.rule m (ap {B = Bool} is_some (p.nodes m) ∙ k)) n (ap {B = Bool} is_some (sym (p.nodes n)) ∙ e) ∙ sym (get_or-map-range_with_len (row_in r) 0 208 n n 0 h (omega arith))

  pub needed_same : (P Q : ℕ) → stage_count (record { sorts = sorts; rows = rows }) P Q ≡ needed r P Q
  needed_same P Q = count_same (record { sorts = sorts; rows = rows }) (nodes_of r) sorts_same rows_same P Q

  pub stages_same : (P Q n : ℕ) → n < 208 → stage_of (record { sorts = sorts; rows = rows }) P Q n ≡ stage_of (nodes_of r) P Q n
  stages_same P Q n h = stage_same (record { sorts = sorts; rows = rows }) (nodes_of r) sorts_same rows_same P Q n h
