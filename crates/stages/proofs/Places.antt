-- Stages keep the order of rows and their room. Assumes nothing.
use Rattle.std.proofs.Common.{◌≡◌, ℕ, zero, suc, ◌+◌, ◌-◌, ◌*◌, ◌/◌, ◌<◌, ◌≤◌, max, Bool, true, false, ◌&&◌, eqb, List, get_or, is_some, Some, None, Option, sym, refl, ap, ◌∙◌, subst, ⊎_elim, le-div_iff_mul-le, div-mul-le_self, arith}
use native.Mathlib.Nat.{le-max_left, le-max_right, lt-div-mul-add}
use Rattle.std.proofs.lemmas.Bool.{both_ways, false≢true, cases_order, and_parts, and_from, and_right, eqb-true, eq-eqb}
use Rattle.stages.specs.declared.node.Node.{Node}
use Rattle.stages.specs.declared.node.Slot.{Slot}
use Rattle.stages.specs.declared.node.Slot.TheVariants.{Stateless, Stateful}
use Rattle.stages.specs.declared.node.Nodes.{Nodes}
use Rattle.stages.specs.Filling.{one, tally, highest, ceiling, slot_of, same, takes, room, node_at, is_node, row_of, in_row, precedes, width, below, placed, stage_of, stage_count}
use Rattle.stages.specs.WellStaged.{standing_in, Keeps}
use Rattle.stages.proofs.Counts.{tally_start, tally_suc, tally_le, tally_some, tally_same, tally_more, tally_bound}
use Rattle.stages.proofs.Widths.{ceiling_room, takes_node, below_zero, below_suc, below_mono, below_skip, highest_holds}
use Rattle.stages.proofs.Progress.{placed_none}

same_is : (a b : Slot) → same a b ≡ true → a ≡ b
same_is Stateless Stateless e = refl
same_is Stateless Stateful e = absurd (false≢true e)
same_is Stateful Stateless e = absurd (false≢true e)
same_is Stateful Stateful e = refl

same_self : (a : Slot) → same a a ≡ true
same_self Stateless = refl
same_self Stateful = refl

slot_of_lem : (o : Option Node) → is_some o ≡ true → (slot : Slot) × (takes slot o ≡ true)
slot_of_lem None e = absurd (false≢true e)
slot_of_lem (Some v) e = (slot_of v, same_self (slot_of v))

-- of those that pass, the ones that fill one stage: no more than its room
chunk : (p : ℕ → Bool) (room q n : ℕ) → 1 ≤ room → (tally n (λ i. p i && eqb (tally i p / room) q) ≤ room) × (tally n (λ i. p i && eqb (tally i p / room) q) ≤ tally n p - q * room)
chunk p room q zero pos = let u = tally_start (λ i. p i && eqb (tally i p / room) q) in (omega arith, omega arith)
chunk p room q (suc n) pos = go (p n) (eqb (tally n p / room) q) refl refl (chunk p room q n pos)
  where
    go : (a b : Bool) → p n ≡ a → eqb (tally n p / room) q ≡ b → (tally n (λ i. p i && eqb (tally i p / room) q) ≤ room) × (tally n (λ i. p i && eqb (tally i p / room) q) ≤ tally n p - q * room) → (tally (suc n) (λ i. p i && eqb (tally i p / room) q) ≤ room) × (tally (suc n) (λ i. p i && eqb (tally i p / room) q) ≤ tally (suc n) p - q * room)
    go false b e f h =
        let g = tally_suc n (λ i. p i && eqb (tally i p / room) q) in
        let k = tally_suc n p in
        let s = ap one (ap (λ x. x && eqb (tally n p / room) q) e) in
        let t = ap one e in
        (omega arith, omega arith)
    go true false e f h =
        let g = tally_suc n (λ i. p i && eqb (tally i p / room) q) in
        let k = tally_suc n p in
        let s = ap one (and_right (p n) _ f) in
        let t = ap one e in
        (omega arith, omega arith)
    go true true e f h =
        let g = tally_suc n (λ i. p i && eqb (tally i p / room) q) in
        let k = tally_suc n p in
        let s = ap one (and_from _ _ e f) in
        let t = ap one e in
        let d = eqb-true _ _ f in
        let u = ap (λ x. x * room) d in
        let v = div-mul-le_self (tally n p) room in
        let x = lt-div-mul-add {a = tally n p} {b = room} (omega arith) in
        (omega arith, omega arith)

module _ (x : Nodes) (P Q : ℕ) (posP : 1 ≤ P) (posQ : 1 ≤ Q) where
  -- how many of its row take such a slot before n
  abbrev rank : Slot → ℕ → ℕ
  rank slot n = tally n (in_row x slot (row_of x n))

  some_room : (slot : Slot) → 1 ≤ room P Q slot
  some_room Stateless = posP
  some_room Stateful = posQ

  broad : (slot : Slot) (r : ℕ) → ceiling (tally 208 (in_row x slot r)) (room P Q slot) ≤ width x P Q r
  broad Stateless r = le-max_left (ceiling (tally 208 (in_row x Stateless r)) P) (ceiling (tally 208 (in_row x Stateful r)) Q)
  broad Stateful r = le-max_right (ceiling (tally 208 (in_row x Stateless r)) P) (ceiling (tally 208 (in_row x Stateful r)) Q)

  at_slot : (slot : Slot) (s n : ℕ) (o : Option Node) → takes slot o ≡ true → placed x P Q s n o ≡ (s + 1) + tally 208 (precedes x slot (row_of x n) n) / room P Q slot
  at_slot slot s n None e = absurd (false≢true e)
  at_slot slot s n (Some v) e = ap (λ t. (s + 1) + tally 208 (precedes x t (row_of x n) n) / room P Q t) (sym (same_is slot (slot_of v) e))

  of_slot : (slot : Slot) (n : ℕ) → n < 208 → takes slot (node_at x n) ≡ true → stage_of x P Q n ≡ (below x P Q (row_of x n) + 1) + rank slot n / room P Q slot
  of_slot slot n h e = at_slot slot (below x P Q (row_of x n)) n (node_at x n) e ∙ ap (λ t. (below x P Q (row_of x n) + 1) + t / room P Q slot) (tally_bound 208 n (in_row x slot (row_of x n)) (omega arith))

  ranked : (slot : Slot) (n : ℕ) → n < 208 → takes slot (node_at x n) ≡ true → rank slot n < tally 208 (in_row x slot (row_of x n))
  ranked slot n h e = tally_more 208 n (in_row x slot (row_of x n)) h (and_from _ _ e (eq-eqb (row_of x n) (row_of x n) refl))

  high_slot : (slot : Slot) (n : ℕ) → n < 208 → takes slot (node_at x n) ≡ true → stage_of x P Q n ≤ below x P Q (suc (row_of x n))
  high_slot slot n h e =
      let b = broad slot (row_of x n) in
      let u = ceiling_room (rank slot n) (tally 208 (in_row x slot (row_of x n))) (room P Q slot) (some_room slot) (ranked slot n h e) in
      let s = below_suc x P Q (row_of x n) in
      let o = of_slot slot n h e in
      omega arith

  low : (n : ℕ) → n < 208 → is_node x n ≡ true → below x P Q (row_of x n) < stage_of x P Q n
  low n h e = let (slot, t) = slot_of_lem (node_at x n) e in let o = of_slot slot n h t in omega arith

  high : (n : ℕ) → n < 208 → is_node x n ≡ true → stage_of x P Q n ≤ below x P Q (suc (row_of x n))
  high n h e = let (slot, t) = slot_of_lem (node_at x n) e in high_slot slot n h t

  -- two nodes in one stage are in one row
  row_one : (m n t : ℕ) → m < 208 → n < 208 → is_node x m ≡ true → is_node x n ≡ true → stage_of x P Q m ≡ t → stage_of x P Q n ≡ t → row_of x m ≡ row_of x n
  row_one m n t hm hn sm sn em en =
      let am = low m hm sm in
      let an = low n hn sn in
      let bm = high m hm sm in
      let bn = high n hn sn in
      ⊎_elim (λ e. e) (⊎_elim (λ lt. let s = below_mono x P Q (suc (row_of x m)) (row_of x n) (omega arith) in absurd (omega arith)) (λ lt. let s = below_mono x P Q (suc (row_of x n)) (row_of x m) (omega arith) in absurd (omega arith))) (cases_order (row_of x m) (row_of x n))

  fits : (slot : Slot) (t : ℕ) → standing_in x (stage_of x P Q) slot t ≤ room P Q slot
  fits slot t = ⊎_elim (λ z. let p = some_room slot in omega arith) (λ s. some s.0 s.1 s.2) (tally_some 208 (λ n. takes slot (node_at x n) && eqb (stage_of x P Q n) t))
    where
      each : (n : ℕ) → n < 208 → (takes slot (node_at x n) && eqb (stage_of x P Q n) t) ≡ true → (m : ℕ) → m < 208 → takes slot (node_at x m) ≡ true → stage_of x P Q m ≡ t → (in_row x slot (row_of x m) n && eqb (tally n (in_row x slot (row_of x m)) / room P Q slot) (rank slot m / room P Q slot)) ≡ true
      each n hn o m hm sm pm =
          let (sn, en) = and_parts (takes slot (node_at x n)) _ o in
          let pn = eqb-true _ _ en in
          let e = row_one n m t hn hm (takes_node slot (node_at x n) sn) (takes_node slot (node_at x m) sm) pn pm in
          let b = ap (below x P Q) e in
          let d = ap (λ r. tally n (in_row x slot r) / room P Q slot) e in
          let a = of_slot slot n hn sn in
          let c = of_slot slot m hm sm in
          and_from _ _ (and_from _ _ sn (eq-eqb _ _ e)) (eq-eqb _ _ (omega arith))

      some : (m : ℕ) → m < 208 → (takes slot (node_at x m) && eqb (stage_of x P Q m) t) ≡ true → standing_in x (stage_of x P Q) slot t ≤ room P Q slot
      some m hm on =
          let (sm, em) = and_parts (takes slot (node_at x m)) _ on in
          let pm = eqb-true _ _ em in
          let c = (chunk (in_row x slot (row_of x m)) (room P Q slot) (rank slot m / room P Q slot) 208 (some_room slot)).0 in
          let t = tally_le 208 (λ n. takes slot (node_at x n) && eqb (stage_of x P Q n) t) (λ i. in_row x slot (row_of x m) i && eqb (tally i (in_row x slot (row_of x m)) / room P Q slot) (rank slot m / room P Q slot)) (λ n hn o. each n hn o m hm sm pm) in
          omega arith

  in_order : (slot : Slot) (m n : ℕ) → m < n → n < 208 → takes slot (node_at x m) ≡ true → takes slot (node_at x n) ≡ true → row_of x m ≡ row_of x n → stage_of x P Q m ≤ stage_of x P Q n
  in_order slot m n lt h sm sn e =
      let a = of_slot slot m (omega arith) sm in
      let c = of_slot slot n h sn in
      let b = ap (below x P Q) e in
      let r = ap (λ r. tally m (in_row x slot r)) e in
      let k = tally_more n m (in_row x slot (row_of x n)) lt (and_from _ _ sm (eq-eqb _ _ e)) in
      let u = div-mul-le_self (rank slot m) (room P Q slot) in
      let small : rank slot m / room P Q slot * room P Q slot ≤ rank slot n = omega arith in
      let q = (le-div_iff_mul-le {k = room P Q slot} {x = rank slot m / room P Q slot} {y = rank slot n} (some_room slot)).1 small in
      omega arith

  pub keeps : Keeps x P Q (stage_of x P Q) (stage_count x P Q)
  keeps = record {
    first = λ n h e. let t = low n h e in omega arith;
    last = λ n h e. let t = high n h e in let s = highest_holds 208 (is_node x) (row_of x) n h e in let b = below_mono x P Q (suc (row_of x n)) (highest 208 (is_node x) (row_of x) + 1) (omega arith) in let m = le-max_right 1 (below x P Q (highest 208 (is_node x) (row_of x) + 1)) in omega arith;
    absent = λ n h e. placed_none x P Q (below x P Q (row_of x n)) n (node_at x n) e;
    earlier = λ m n hm hn em en lt. let t = high m hm em in let s = low n hn en in let b = below_mono x P Q (suc (row_of x m)) (row_of x n) (omega arith) in omega arith;
    ordered = in_order;
    lines = fits Stateless;
    atoms = fits Stateful;
    empty = λ h. ap (λ t. max 1 t) (sym (below_skip x P Q posP posQ 0 (highest 208 (is_node x) (row_of x) + 1) (omega arith) (λ k lt e _. absurd (both_ways _ (h k lt) e))) ∙ below_zero x P Q);
  }

-- a table that agrees with the rule keeps what the rule keeps
pub keeps_as : (x : Nodes) (P Q : ℕ) (stage other : ℕ → ℕ) (count : ℕ) → ((n : ℕ) → n < 208 → other n ≡ stage n) → Keeps x P Q stage count → Keeps x P Q other count
keeps_as x P Q stage other count is k = record {
  first = λ n h e. rw (is n h) (k.first n h e);
  last = λ n h e. rw (is n h) (k.last n h e);
  absent = λ n h e. is n h ∙ k.absent n h e;
  earlier = λ m n hm hn em en lt. let a = is m hm in let b = is n hn in let t = k.earlier m n hm hn em en lt in omega arith;
  ordered = λ slot m n lt h sm sn e. let a = is m (omega arith) in let b = is n h in let t = k.ordered slot m n lt h sm sn e in omega arith;
  lines = λ t. let s = counted Stateless t in let l = k.lines t in omega arith;
  atoms = λ t. let s = counted Stateful t in let l = k.atoms t in omega arith;
  empty = k.empty;
}
  where
    counted : (slot : Slot) (t : ℕ) → standing_in x other slot t ≡ standing_in x stage slot t
    counted slot t = tally_same 208 (λ n. takes slot (node_at x n) && eqb (other n) t) (λ n. takes slot (node_at x n) && eqb (stage n) t) (λ n h. ap (λ v. takes slot (node_at x n) && eqb v t) (is n h))

pub well_staged : (x : Nodes) (P Q : ℕ) → 1 ≤ P → 1 ≤ Q → (table : List ℕ) (count : ℕ) → ((n : ℕ) → n < 208 → get_or table n 0 ≡ stage_of x P Q n) → count ≡ stage_count x P Q → Keeps x P Q (λ n. get_or table n 0) count
well_staged x P Q posP posQ table count each e =
    subst (Keeps x P Q (λ n. get_or table n 0)) (sym e) (keeps_as x P Q (stage_of x P Q) (λ n. get_or table n 0) (stage_count x P Q) each (keeps x P Q posP posQ))
