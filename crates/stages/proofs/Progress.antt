-- How far the rows are filled, from one row to the next. Assumes nothing.
use Rattle.std.proofs.Common.{◌≡◌, ℕ, suc, ◌+◌, ◌<◌, ◌≤◌, Bool, true, false, cond, not, ◌&&◌, eqb, ltb, List, length, get_or, is_some, Some, None, Option, sym, refl, ap, ◌∙◌, subst, ⊎_elim, arith}
use Rattle.std.proofs.lemmas.Bool.{both_ways, true≢false, cases_Bool, cases_order, cond-true, cond-false, and_parts, and_from, and_right, not-true, not_from_true, not_from_false, eq-eqb, ne_eqb, ltb-true, ltb-false, lt-ltb, le-ltb}
use Rattle.stages.specs.declared.node.Node.{Node}
use Rattle.stages.specs.declared.node.Nodes.{Nodes}
use Rattle.stages.specs.Filling.{tally, highest, node_at, is_node, row_of, width, below, placed, stage_of}
use Rattle.stages.proofs.Counts.{tally_lt}
use Rattle.stages.proofs.Widths.{below_zero, below_suc, below_few, below_skip, highest_holds, highest_within}
use Rattle.stages.proofs.NextRow.{Least}

-- the rows below the next are filled, or all where there is no next
abbrev pub filled : Option ℕ → ℕ → Bool
filled None r = true
filled (Some q) r = ltb r q

-- the stages that they take
abbrev pub start_of : Nodes → ℕ → ℕ → Option ℕ → ℕ
start_of x P Q None = below x P Q (highest 208 (is_node x) (row_of x) + 1)
start_of x P Q (Some q) = below x P Q q

-- the next row has a node
abbrev pub Present : Nodes → Option ℕ → Type 0
Present x None = Unit {0}
Present x (Some q) = (k : ℕ) × (k < 208) × (is_node x k ≡ true) × (row_of x k ≡ q)

pub record Progress (x : Nodes) (P Q : ℕ) (next : Option ℕ) (needed : ℕ) (table : List ℕ) : Type 0 where
  pub start : needed ≡ start_of x P Q next
  pub each : (k : ℕ) → k < 208 → get_or table k 0 ≡ cond (filled next (row_of x k)) (stage_of x P Q k) 0
  pub long : length table ≡ 208
  pub present : Present x next

-- the nodes that are still to be placed
abbrev pub waiting : Nodes → Option ℕ → ℕ
waiting x next = tally 208 (λ k. is_node x k && not (filled next (row_of x k)))

-- where there is no node
pub placed_none : (x : Nodes) (P Q s n : ℕ) (o : Option Node) → is_some o ≡ false → placed x P Q s n o ≡ 0
placed_none x P Q s n None e = refl
placed_none x P Q s n (Some v) e = absurd (true≢false e)

same_arms : (b : Bool) (v : ℕ) → v ≡ 0 → cond b v 0 ≡ 0
same_arms true v e = e
same_arms false v e = refl

-- what the next row after none says of a node
first_fills : (x : Nodes) (o : Option ℕ) → Least x None 208 o → (k : ℕ) → k < 208 → is_node x k ≡ true → filled o (row_of x k) ≡ false
first_fills x None h k lt e = absurd (both_ways _ (h k lt) (and_from _ _ e refl))
first_fills x (Some q) h k lt e = le-ltb (row_of x k) q (h.1 k lt (and_from _ _ e refl))

-- and after one
next_fills : (x : Nodes) (row : ℕ) (o : Option ℕ) → Least x (Some row) 208 o → (k : ℕ) → k < 208 → is_node x k ≡ true → filled o (row_of x k) ≡ ltb (row_of x k) (suc row)
next_fills x row None h k lt e = ⊎_elim (λ t. absurd (both_ways _ (h k lt) (and_from _ _ e t))) (λ f. let g = ltb-false row (row_of x k) f in sym (lt-ltb (row_of x k) (suc row) (omega arith))) (cases_Bool (ltb row (row_of x k)))
next_fills x row (Some q) ((j, hj, on, is), low) k lt e = ⊎_elim
    (λ t. let g = low k lt (and_from _ _ e t) in let a = ltb-true row (row_of x k) t in le-ltb (row_of x k) q g ∙ sym (le-ltb (row_of x k) (suc row) (omega arith)))
    (λ f. let g = ltb-false row (row_of x k) f in let a = ltb-true row (row_of x j) (and_parts (is_node x j) _ on).1 in lt-ltb (row_of x k) q (omega arith) ∙ sym (lt-ltb (row_of x k) (suc row) (omega arith)))
    (cases_Bool (ltb row (row_of x k)))

is_present : (x : Nodes) (prior o : Option ℕ) → Least x prior 208 o → Present x o
is_present x prior None h = tt
is_present x prior (Some q) ((k, lt, on, is), low) = (k, lt, (and_parts (is_node x k) _ on).0, is)

module _ (x : Nodes) (P Q : ℕ) (posP : 1 ≤ P) (posQ : 1 ≤ Q) where
  first_start : (o : Option ℕ) → Least x None 208 o → 0 ≡ start_of x P Q o
  first_start None h = sym (below_zero x P Q) ∙ below_skip x P Q posP posQ 0 _ (omega arith) (λ k lt e _. absurd (both_ways _ (h k lt) (and_from _ _ e refl)))
  first_start (Some q) (is, low) = sym (below_zero x P Q) ∙ below_skip x P Q posP posQ 0 q (omega arith) (λ k lt e _. low k lt (and_from _ _ e refl))

  next_start : (row : ℕ) (o : Option ℕ) → Present x (Some row) → Least x (Some row) 208 o → below x P Q (suc row) ≡ start_of x P Q o
  next_start row None (m, hm, on, is) h =
      let a = highest_holds 208 (is_node x) (row_of x) m hm on in
      let b = highest_within 208 (is_node x) (row_of x) row (λ k lt e. ⊎_elim (λ t. absurd (both_ways _ (h k lt) (and_from _ _ e t))) (λ f. ltb-false row (row_of x k) f) (cases_Bool (ltb row (row_of x k)))) in
      ap (below x P Q) (omega arith)
  next_start row (Some q) (m, hm, on, is) ((j, hj, jon, jis), low) =
      let a = ltb-true row (row_of x j) (and_parts (is_node x j) _ jon).1 in
      below_skip x P Q posP posQ (suc row) q (omega arith) (λ k lt e le. low k lt (and_from _ _ e (lt-ltb row (row_of x k) (omega arith))))

  -- the start: no row is filled
  pub begin : (o : Option ℕ) (table : List ℕ) → Least x None 208 o → length table ≡ 208 → ((k : ℕ) → k < 208 → get_or table k 0 ≡ 0) → Progress x P Q o 0 table
  begin o table h long zeros = record {
    start = first_start o h;
    each = λ k lt. zeros k lt ∙ sym (⊎_elim (λ e. cond-false (filled o (row_of x k)) _ 0 (first_fills x o h k lt e)) (λ e. same_arms (filled o (row_of x k)) _ (placed_none x P Q _ k (node_at x k) e)) (cases_Bool (is_node x k)));
    long = long;
    present = is_present x None o h;
  }

  -- one row more
  pub turn : (row needed w : ℕ) (next o : Option ℕ) (table more : List ℕ) → Progress x P Q next needed table → next ≡ Some row → Least x (Some row) 208 o → w ≡ width x P Q row → length more ≡ 208 → ((k : ℕ) → k < 208 → get_or more k 0 ≡ cond (eqb (row_of x k) row) (placed x P Q needed k (node_at x k)) (get_or table k 0)) → Progress x P Q o (needed + w) more
  turn row needed w next o table more h is least we long each = record {
    start = let b = started in let u = below_suc x P Q row in let s = next_start row o here least in omega arith;
    each = λ k lt. each k lt ∙ ⊎_elim (node k lt) (λ e. rw (placed_none x P Q needed k (node_at x k) e) (rw (old k lt) (no_node k e))) (cases_Bool (is_node x k));
    long = long;
    present = is_present x (Some row) o least;
  }
    where
      here : Present x (Some row)
      here = subst (Present x) is h.present

      started : needed ≡ below x P Q row
      started = h.start ∙ ap (start_of x P Q) is

      old : (k : ℕ) → k < 208 → get_or table k 0 ≡ cond (ltb (row_of x k) row) (stage_of x P Q k) 0
      old k lt = h.each k lt ∙ ap (λ q. cond (filled q (row_of x k)) (stage_of x P Q k) 0) is

      no_node : (k : ℕ) → is_node x k ≡ false → cond (eqb (row_of x k) row) 0 (cond (ltb (row_of x k) row) (stage_of x P Q k) 0) ≡ cond (filled o (row_of x k)) (stage_of x P Q k) 0
      no_node k e =
          let z : stage_of x P Q k ≡ 0 = placed_none x P Q (below x P Q (row_of x k)) k (node_at x k) e in
          ap (λ v. cond (eqb (row_of x k) row) 0 v) (same_arms (ltb (row_of x k) row) (stage_of x P Q k) z) ∙ (same_arms (eqb (row_of x k) row) 0 refl ∙ sym (same_arms (filled o (row_of x k)) (stage_of x P Q k) z))

      node : (k : ℕ) → k < 208 → is_node x k ≡ true → cond (eqb (row_of x k) row) (placed x P Q needed k (node_at x k)) (get_or table k 0) ≡ cond (filled o (row_of x k)) (stage_of x P Q k) 0
      node k lt e = ⊎_elim
          (λ q. cond-true (eqb (row_of x k) row) _ _ (eq-eqb _ _ q) ∙ (ap (λ s. placed x P Q s k (node_at x k)) (started ∙ ap (below x P Q) (sym q)) ∙ sym (cond-true (filled o (row_of x k)) _ 0 (next_fills x row o least k lt e ∙ lt-ltb (row_of x k) (suc row) (omega arith)))))
          (⊎_elim
          (λ l. cond-false (eqb (row_of x k) row) _ _ (ne_eqb _ _ (λ q. omega arith)) ∙ (old k lt ∙ (cond-true (ltb (row_of x k) row) _ 0 (lt-ltb _ _ l) ∙ sym (cond-true (filled o (row_of x k)) _ 0 (next_fills x row o least k lt e ∙ lt-ltb (row_of x k) (suc row) (omega arith))))))
          (λ l. cond-false (eqb (row_of x k) row) _ _ (ne_eqb _ _ (λ q. omega arith)) ∙ (old k lt ∙ (cond-false (ltb (row_of x k) row) _ 0 (le-ltb _ _ (omega arith)) ∙ sym (cond-false (filled o (row_of x k)) _ 0 (next_fills x row o least k lt e ∙ le-ltb (row_of x k) (suc row) (omega arith)))))))
          (cases_order (row_of x k) row)

  -- and fewer nodes wait
  pub fewer : (row needed : ℕ) (next o : Option ℕ) (table : List ℕ) → Progress x P Q next needed table → next ≡ Some row → Least x (Some row) 208 o → waiting x o < waiting x next
  fewer row needed next o table h is least = go (subst (Present x) is h.present)
    where
      go : Present x (Some row) → waiting x o < waiting x next
      go (m, hm, on, at) =
          tally_lt 208 (λ k. is_node x k && not (filled o (row_of x k))) (λ k. is_node x k && not (filled next (row_of x k))) m
          (λ k lt t. let (a, b) = and_parts (is_node x k) _ t in let f = ltb-false (row_of x k) (suc row) (sym (next_fills x row o least k lt a) ∙ not-true _ b) in and_from _ _ a (not_from_false _ (ap (λ q. filled q (row_of x k)) is ∙ le-ltb (row_of x k) row (omega arith))))
          hm
          (and_right (is_node x m) _ (not_from_true _ (next_fills x row o least m hm on ∙ lt-ltb (row_of x m) (suc row) (omega arith))))
          (and_from _ _ on (not_from_false _ (ap (λ q. filled q (row_of x m)) is ∙ le-ltb (row_of x m) row (omega arith))))

  -- the stages so far, with the next row's too, are few
  pub room_left : (row needed w : ℕ) (next : Option ℕ) (table : List ℕ) → Progress x P Q next needed table → next ≡ Some row → w ≡ width x P Q row → needed + w ≤ 208
  room_left row needed w next table h is we =
      let a = h.start ∙ ap (start_of x P Q) is in
      let u = below_suc x P Q row in
      let f = below_few x P Q posP posQ (suc row) in
      omega arith

  -- the end: no row is left
  pub all_placed : (needed : ℕ) (next : Option ℕ) (table : List ℕ) → Progress x P Q next needed table → next ≡ None → (k : ℕ) → k < 208 → get_or table k 0 ≡ stage_of x P Q k
  all_placed needed next table h is k lt = h.each k lt ∙ ap (λ q. cond (filled q (row_of x k)) (stage_of x P Q k) 0) is

  pub all_counted : (needed : ℕ) (next : Option ℕ) (table : List ℕ) → Progress x P Q next needed table → next ≡ None → needed ≡ below x P Q (highest 208 (is_node x) (row_of x) + 1)
  all_counted needed next table h is = h.start ∙ ap (start_of x P Q) is
