-- The computed echoes are exactly the least set. Assumes nothing.
use Rattle.std.proofs.Common.{◌≡◌, ℕ, ◌<◌, ◌≤◌, Bool, true, false, ◌&&◌, ◌||◌, List, [], ◌∷◌, map, length, get_or, Some, None, Decides, Option, MatchOption, sym, refl, ap, ◌∙◌, subst, ⊎_elim, arith}
use Rattle.std.specs.List.{range_with_len}
use Rattle.std.proofs.lemmas.Bool.{both_ways, cases_lt, and_parts, and_from, or_cases, or_left, or_right, not-true, not_from_false, eqb-true, false_from_ne_true}
use Rattle.std.proofs.lemmas.Bool.Decides.{same_from_decides}
use Rattle.std.proofs.lemmas.List.FromFn.{length-map-range_with_len, get_or-map-range_with_len}
use Rattle.std.proofs.lemmas.List.{get_or_past}
use Rattle.std.proofs.lemmas.List.Folds.{list_any_at}
use Rattle.graph.specs.Paths.{Path, here, step, Led}
use Rattle.graph.specs.Rounds.{some_below}
use Rattle.graph.proofs.Paths.{path_to}
use Rattle.graph.proofs.Rounds.{some_decides, led_decides}
use Rattle.lines.specs.declared.line.Line.{Line}
use Rattle.lines.specs.declared.line.Line.TheVariants.{Read, Copy, Add, Sub, Less, Equal, Choose, Write}
use Rattle.lines.specs.declared.lines.Lines.{Lines}
use Rattle.lines.specs.Named.{any_of}
use Rattle.lines.specs.Layout.{is_plain}
use Rattle.line_graph.specs.Edges.{line_at, read_by, pairs, edge}
use Rattle.codelets.specs.Codelets.{is_named, in_codelet, is_owner, Owned}
use Rattle.codelets.specs.Inner.{owned, inner}
use Rattle.echoes.specs.Echoes.{is_final, read_outside, leaves, Echo, ends, parts, serves, seed, back, echo, EchoesLeast}
use Rattle.codelets.proofs.Paths.{in_below, named_below}
use Rattle.lines.proofs.Naming.{any_of-list_any}
use Rattle.codelets.proofs.Inner.{owner_one, owner_none}

-- a line that is neither a read line nor a write line is none of a pair
plain_unpaired : (l m : Line) → is_plain l ≡ true → pairs l m ≡ false
plain_unpaired (Read s) m e = absurd (both_ways _ refl e)
plain_unpaired (Copy a) m e = refl
plain_unpaired (Add a b) m e = refl
plain_unpaired (Sub a b) m e = refl
plain_unpaired (Less a b) m e = refl
plain_unpaired (Equal a b) m e = refl
plain_unpaired (Choose c a b) m e = refl
plain_unpaired (Write s a) m e = refl

-- one of a list is such
pub any_one : {A : Type 0} (p : A → Bool) (l : List A) (i : ℕ) (d : A) → i < length l → p (get_or l i d) ≡ true → any_of p l ≡ true
any_one p l i d h e = any_of-list_any p l ∙ list_any_at p l i d h e

module _ (r : Lines) where
  pub inner_below : (n : ℕ) → inner r n ≡ true → n < r.count
  inner_below n i = let (s, h, e) = (some_decides (λ s. in_codelet r s n) 8).0 (and_parts (owned r n) _ i).0 in in_below r s n e

  pub inner_past : (n : ℕ) → r.count ≤ n → inner r n ≡ false
  inner_past n h = false_from_ne_true (inner r n) (λ i. omega (arith, inner_below n i))

  pub seed_past : (n : ℕ) → r.count ≤ n → seed r n ≡ false
  seed_past n h = ap (λ b. b && (is_final r n || leaves r n)) (inner_past n h)

  -- a table of the lines that pass, and of none past the last line
  table_at : (p : ℕ → Bool) → ((n : ℕ) → r.count ≤ n → p n ≡ false) → (on : List Bool) → length on ≡ 208 → ((n : ℕ) → n < 208 → get_or on n false ≡ p n) → (n : ℕ) → get_or on n false ≡ p n
  table_at p past on long at n = ⊎_elim (at n) (λ le. get_or_past on n false (omega arith) ∙ sym (past n (omega (arith, r.few)))) (cases_lt n 208)

  pub inner_at : (on : List Bool) → length on ≡ 208 → ((n : ℕ) → n < 208 → get_or on n false ≡ inner r n) → (n : ℕ) → get_or on n false ≡ inner r n
  inner_at = table_at (inner r) inner_past

  pub seed_at : (on : List Bool) → length on ≡ 208 → ((n : ℕ) → n < 208 → get_or on n false ≡ seed r n) → (n : ℕ) → get_or on n false ≡ seed r n
  seed_at = table_at (seed r) seed_past

  pub echo_inner : {n : ℕ} → Echo r n → inner r n ≡ true
  echo_inner (ends n i f) = i
  echo_inner (parts n m s i p h e o) = i
  echo_inner (serves n m i e x) = i

  seed_echo : (n : ℕ) → seed r n ≡ true → Echo r n
  seed_echo n e =
      let (i, t) = and_parts (inner r n) _ e in
      ⊎_elim (ends n i) (λ o. let (s, h, c) = (some_decides (λ s. in_codelet r s n && some_below r.count (read_outside r s n)) 8).0 o in let (p, q) = and_parts (in_codelet r s n) _ c in let (m, lt, b) = (some_decides (read_outside r s n) r.count).0 q in let (x, f) = and_parts (read_by r n m) _ b in parts n m s i p lt x (not-true _ f)) (or_cases (is_final r n) _ t)

  -- marks that start at the seeds and go along steps from a line to each that it reads
  module _ (starts : List Bool) (next : ℕ → ℕ → Bool) (seeded : (n : ℕ) → get_or starts n false ≡ seed r n) (there : (a b : ℕ) → a < r.count → b < r.count → next a b ≡ true → back r a b ≡ true) (again : (a b : ℕ) → a < r.count → b < r.count → back r a b ≡ true → next a b ≡ true) where
    path_echo : (e : ℕ) → Echo r e → {n : ℕ} → Path r.count next e n → Echo r n
    path_echo e x (here h) = x
    path_echo e x (step b c p h d) =
        let (ib, t) = and_parts (inner r b) _ (there b c (path_to r.count next p) h d) in
        let (ic, y) = and_parts (inner r c) _ t in
        serves c b ic y (path_echo e x p)

    echo_led : {n : ℕ} → Echo r n → Led r.count next starts n
    echo_led (ends n i f) = (n, seeded n ∙ and_from _ _ i (or_left (is_final r n) _ f), here (inner_below n i))
    echo_led (parts n m s i p h x o) =
        (n, seeded n ∙ and_from _ _ i (or_right (is_final r n) _ ((some_decides (λ s. in_codelet r s n && some_below r.count (read_outside r s n)) 8).1 (s, named_below r s (and_parts (is_named r s) _ p).0, and_from _ _ p ((some_decides (read_outside r s n) r.count).1 (m, h, and_from _ _ x (not_from_false _ o)))))), here (inner_below n i))
    echo_led (serves n m i x e) =
        let (a, on, p) = echo_led e in (a, on, step m n p (inner_below n i) (again m n (path_to r.count next p) (inner_below n i) (and_from _ _ (echo_inner e) (and_from _ _ i x))))

    pub led_echo : (n : ℕ) → (Led r.count next starts n → Echo r n) × (Echo r n → Led r.count next starts n)
    led_echo n = (λ (a, on, p). path_echo a (seed_echo a (sym (seeded a) ∙ on)) p, echo_led)

  abbrev seed_list : List Bool
  seed_list = map (λ m. seed r m) (range_with_len 0 r.count)

  seeds_at : (n : ℕ) → get_or seed_list n false ≡ seed r n
  seeds_at n = ⊎_elim (λ h. get_or-map-range_with_len (λ m. seed r m) 0 r.count n n false h (omega arith)) (λ h. get_or_past seed_list n false (omega (arith, length-map-range_with_len (λ m. seed r m) 0 r.count)) ∙ sym (seed_past n h)) (cases_lt n r.count)

  pub echo_decides : (n : ℕ) → Decides (echo r n) (Echo r n)
  echo_decides n =
      let d = led_decides r.count (back r) seed_list (length-map-range_with_len (λ m. seed r m) 0 r.count) n in
      let e = led_echo seed_list (back r) seeds_at (λ a b _ _ t. t) (λ a b _ _ t. t) n in
      (λ t. e.0 (d.0 t), λ x. d.1 (e.1 x))

  -- the search over marks on the inner lines
  module _ (inside starts : List Bool) (on : (n : ℕ) → get_or inside n false ≡ inner r n) (seeded : (n : ℕ) → get_or starts n false ≡ seed r n) where
    abbrev joined : ℕ → ℕ → Bool
    joined a b = get_or inside a false && (get_or inside b false && edge r b a)

    unpaired : (a b : ℕ) → inner r a ≡ true → pairs (line_at r a) (line_at r b) ≡ false
    unpaired a b i = plain_unpaired (line_at r a) (line_at r b) (and_parts (owned r a) _ i).1

    there : (a b : ℕ) → a < r.count → b < r.count → joined a b ≡ true → back r a b ≡ true
    there a b ha hb e =
        let (p, t) = and_parts (get_or inside a false) _ e in
        let (q, d) = and_parts (get_or inside b false) _ t in
        let ia = sym (on a) ∙ p in
        let ib = sym (on b) ∙ q in
        and_from _ _ ia (and_from _ _ ib (⊎_elim (λ x. x) (λ x. ⊎_elim (λ z. absurd (both_ways _ (unpaired b a ib) z)) (λ z. absurd (both_ways _ (unpaired a b ia) z)) (or_cases (pairs (line_at r b) (line_at r a)) _ x)) (or_cases (read_by r b a) _ d)))

    again : (a b : ℕ) → a < r.count → b < r.count → back r a b ≡ true → joined a b ≡ true
    again a b ha hb e =
        let (ia, t) = and_parts (inner r a) _ e in
        let (ib, d) = and_parts (inner r b) _ t in
        and_from _ _ (on a ∙ ia) (and_from _ _ (on b ∙ ib) (or_left (read_by r b a) _ d))

    pub found_echoes : (marks : List Bool) → ((n : ℕ) → n < r.count → Decides (get_or marks n false) (Led r.count joined starts n)) → ((n : ℕ) → r.count ≤ n → get_or marks n false ≡ get_or starts n false) → (n : ℕ) → Decides (get_or marks n false) (Echo r n)
    found_echoes marks d o n =
        let e = led_echo starts joined seeded there again n in
        ⊎_elim (λ h. (λ t. e.0 ((d n h).0 t), λ x. (d n h).1 (e.1 x))) (λ h. (λ t. absurd (both_ways _ (seed_past n h) (sym (seeded n) ∙ (sym (o n h) ∙ t))), λ x. absurd (omega (arith, inner_below n (echo_inner x))))) (cases_lt n r.count)

pub echoes_least : EchoesLeast
echoes_least = echo_decides

module _ (r : Lines) (owner : List (Option ℕ)) (o : Owned r owner) (n : ℕ) where
  leaves_none : get_or owner n None ≡ None → leaves r n ≡ false
  leaves_none e = false_from_ne_true (leaves r n) (λ t. let (s, h, i) = (some_decides (λ s. in_codelet r s n && some_below r.count (read_outside r s n)) 8).0 t in both_ways _ (owner_none r owner o n e s) (and_parts (in_codelet r s n) _ i).0)

  leaves_some : (s : ℕ) → get_or owner n None ≡ Some s → leaves r n ≡ some_below r.count (read_outside r s n)
  leaves_some s e =
      same_from_decides {P = some_below r.count (read_outside r s n) ≡ true} _ _ (λ t. let (u, h, i) = (some_decides (λ s. in_codelet r s n && some_below r.count (read_outside r s n)) 8).0 t in let (p, q) = and_parts (in_codelet r u n) _ i in subst (λ v. some_below r.count (read_outside r v n) ≡ true) (sym (eqb-true s u (sym (ap (λ x. is_owner x u) e) ∙ (o u n ∙ p)))) q, λ t. (some_decides (λ s. in_codelet r s n && some_below r.count (read_outside r s n)) 8).1 (s, named_below r s (and_parts (is_named r s) _ (owner_one r owner o n s e)).0, and_from _ _ (owner_one r owner o n s e) t)) (λ t. t, λ t. t)

  pub leaves_is : (b : Bool) (o : Option ℕ) → o ≡ get_or owner n None → MatchOption o (b ≡ false) (λ s. b ≡ some_below r.count (read_outside r s n)) → b ≡ leaves r n
  leaves_is b (Some s) e m = m ∙ sym (leaves_some s (sym e))
  leaves_is b None e m = m ∙ sym (leaves_none (sym e))
