-- From what lines reach to their owners. Assumes nothing.
use Rattle.std.proofs.Common.{◌≡◌, ℕ, ◌+◌, ◌<◌, ◌≤◌, true, false, cond, not, ◌&&◌, eqb, ltb, List, length, get_or, Some, None, Option, sym, ap, ◌∙◌, subst, ⊎_elim, arith, below_more}
use Rattle.std.proofs.lemmas.Bool.{both_ways, cases_Bool, cases_eq, cases_lt, and_from, and_right, and_parts, eq-eqb, ne_eqb, lt-ltb, le-ltb, cond-true, cond-false, false_from_ne_true}
use Rattle.std.proofs.lemmas.List.{get_or_past}
use Rattle.lines.specs.declared.lines.Lines.{Lines}
use Rattle.codelets.specs.Codelets.{is_named, write_of, meets, in_codelet, crowds, crowded, is_owner, Owned, Alone, Coded, Smallest}
use Rattle.codelets.proofs.Turns.{some_none}
use Rattle.codelets.proofs.Paths.{codelet_decides, crowded_decides, same_codelet, named_below, in_below}

module _ (r : Lines) where
  -- the owners that the states below s give, none of which shares its codelet
  pub record Below (owner : List (Option ℕ)) (s : ℕ) : Type 0 where
    pub long : length owner ≡ 208
    pub own : (t n : ℕ) → is_owner (get_or owner n None) t ≡ (ltb t s && in_codelet r t n)
    pub free : (t : ℕ) → t < s → crowded r t ≡ false

  pub below_start : (owner : List (Option ℕ)) → length owner ≡ 208 → ((n : ℕ) → get_or owner n None ≡ None) → Below owner 0
  below_start owner long e = record { long = long; own = λ t n. ap (λ o. is_owner o t) (e n) ∙ sym (ap (λ b. b && in_codelet r t n) (le-ltb t 0 (omega arith))); free = λ t h. absurd (omega arith) }

  module _ (s : ℕ) where
    -- a turn that changes nothing for the states below s
    theirs : (n t : ℕ) → in_codelet r s n ≡ false → (ltb t s && in_codelet r t n) ≡ (ltb t (s + 1) && in_codelet r t n)
    theirs n t m =
        ⊎_elim (λ (e : t ≡ s). let f = subst (λ x. in_codelet r x n ≡ false) (sym e) m in and_right (ltb t s) _ f ∙ sym (and_right (ltb t (s + 1)) _ f)) (λ ne. ap (λ b. b && in_codelet r t n) (⊎_elim (λ lt. lt-ltb t s lt ∙ sym (lt-ltb t (s + 1) (omega arith))) (λ le. le-ltb t s le ∙ sym (le-ltb t (s + 1) (omega arith))) (cases_lt t s))) (cases_eq t s)

    -- a state that no statement names has no codelet
    none_in : is_named r s ≡ false → (n : ℕ) → in_codelet r s n ≡ false
    none_in e n = ap (λ b. b && meets r (write_of r s) n) e

    none_crowd : is_named r s ≡ false → crowded r s ≡ false
    none_crowd e = some_none 8 (crowds r s) (λ t _. and_right (not (eqb t s)) _ (and_right (is_named r t) _ (none_in e (write_of r t))))

    pub below_unnamed : (owner owner' : List (Option ℕ)) → owner' ≡ owner → is_named r s ≡ false → Below owner s → Below owner' (s + 1)
    below_unnamed owner owner' q e b = rw q (record {
      long = b.long;
      own = λ t n. b.own t n ∙ theirs n t (none_in e n);
      free = below_more (λ t. crowded r t ≡ false) s b.free (none_crowd e);
    })

    module _ (alone : crowded r s ≡ false) where
      -- no other state's codelet has a line of this one
      other : (t n : ℕ) → (t ≡ s → ⊥) → in_codelet r s n ≡ true → in_codelet r t n ≡ false
      other t n ne m =
          false_from_ne_true (in_codelet r t n) (λ q. let a = (codelet_decides r s n).0 m in let b = (codelet_decides r t n).0 q in both_ways _ alone ((crowded_decides r s).1 (t, ne, b.named, same_codelet r s t n a b)))

      mine : (n t : ℕ) → in_codelet r s n ≡ true → eqb s t ≡ (ltb t (s + 1) && in_codelet r t n)
      mine n t m =
          ⊎_elim (λ (e : t ≡ s). eq-eqb s t (sym e) ∙ sym (and_from _ _ (lt-ltb t (s + 1) (omega arith)) (subst (λ x. in_codelet r x n ≡ true) (sym e) m))) (λ ne. ne_eqb s t (λ e. ne (sym e)) ∙ sym (and_right (ltb t (s + 1)) _ (other t n ne m))) (cases_eq t s)

      pub below_named : (owner owner' : List (Option ℕ)) → length owner' ≡ 208 → Below owner s → ((n : ℕ) → n < 208 → get_or owner' n None ≡ cond (in_codelet r s n) (Some s) (get_or owner n None)) → Below owner' (s + 1)
      below_named owner owner' long b e = record { long = long; own = λ t n. each t n; free = below_more (λ t. crowded r t ≡ false) s b.free alone }
        where
          inside : (t n : ℕ) → n < 208 → is_owner (get_or owner' n None) t ≡ (ltb t (s + 1) && in_codelet r t n)
          inside t n h =
              ap (λ o. is_owner o t) (e n h) ∙ ⊎_elim (λ m. ap (λ o. is_owner o t) (cond-true _ (Some s) (get_or owner n None) m) ∙ mine n t m) (λ m. ap (λ o. is_owner o t) (cond-false _ (Some s) (get_or owner n None) m) ∙ (b.own t n ∙ theirs n t m)) (cases_Bool (in_codelet r s n))

          past : (t n : ℕ) → 208 ≤ n → is_owner (get_or owner' n None) t ≡ (ltb t (s + 1) && in_codelet r t n)
          past t n h =
              ap (λ o. is_owner o t) (get_or_past owner' n None (omega arith)) ∙ sym (and_right (ltb t (s + 1)) _ (false_from_ne_true (in_codelet r t n) (λ q. omega (arith, in_below r t n q, r.few))))

          each : (t n : ℕ) → is_owner (get_or owner' n None) t ≡ (ltb t (s + 1) && in_codelet r t n)
          each t n = ⊎_elim (inside t n) (past t n) (cases_lt n 208)

  pub below_owned : (owner : List (Option ℕ)) (s : ℕ) → 8 ≤ s → Below owner s → Owned r owner
  below_owned owner s h b t n =
      b.own t n ∙ ⊎_elim (λ lt. ap (λ x. x && in_codelet r t n) (lt-ltb t s lt)) (λ le. ap (λ x. x && in_codelet r t n) (le-ltb t s le) ∙ sym (false_from_ne_true (in_codelet r t n) (λ q. omega (arith, named_below r t (and_parts (is_named r t) _ q).0)))) (cases_lt t s)

  pub below_alone : (owner : List (Option ℕ)) (s : ℕ) → 8 ≤ s → Below owner s → Alone r
  below_alone owner s h b t = ⊎_elim (b.free t) (λ le. false_from_ne_true (crowded r t) (λ q. let (u, ne, k, i) = (crowded_decides r t).0 q in omega (arith, named_below r t i.named))) (cases_lt t s)

  pub coded : (owner : List (Option ℕ)) → Owned r owner → Alone r → Coded r owner
  coded owner o a = record {
    whole = λ s n. (λ e. (codelet_decides r s n).0 (sym (o s n) ∙ e), λ i. o s n ∙ (codelet_decides r s n).1 i);
    alone = λ s x. both_ways _ (a s) ((crowded_decides r s).1 x);
  }

  pub smallest : (owner : List (Option ℕ)) (s : ℕ) → Below owner s → crowded r s ≡ true → Smallest r s
  smallest owner s b e = record { shares = (crowded_decides r s).0 e; before = λ t h x. both_ways _ (b.free t h) ((crowded_decides r t).1 x) }
