-- An atom fitted to a state's update. Assumes nothing.
use Rattle.std.proofs.Common.{◌≡◌, ℕ, ◌+◌, ◌<◌, ◌≤◌, Bool, true, false, List, Err, Result, Some, None, Option, [], length, set, sym, refl, ◌∙◌, ⊎_elim, arith, get_or-set_other, get_or-set_same}
use Rattle.std.proofs.lemmas.Bool.{and_from, and_left, and_right, lt-ltb, le-leb, cases_eq, not_from_false, not_from_true, both_ways}
use Rattle.lines.specs.declared.line.Source.{Source}
use Rattle.lines.specs.declared.lines.Lines.{Lines}
use Rattle.codelets.specs.Codelets.{is_named, read_of}
use Rattle.resolving.specs.declared.codelet.Codelet.{Codelet}
use Rattle.resolving.specs.declared.decided.Decided.{Decided}
use Rattle.resolving.specs.declared.packet.Packet.{Packet}
use Rattle.resolving.specs.Sameness.{undecided}
use Rattle.updates.specs.Inner.{inner_of, update_of}
use Rattle.updates.proofs.Same.{same_codelets}
use Rattle.settings.specs.Settings.{has_room}
use Rattle.plans.specs.Updates.{codelet_of}
use Rattle.compiler.specs.declared.fault.AtomFault.{AtomFault}
use Rattle.compiler.specs.declared.fault.AtomFault.TheVariants.{Update}
use Rattle.compiler.specs.Verdict.{untaken}
use Rattle.std.specs.Bool.{then_some}
use Rattle.compiler.specs.Settings.{FitsUpdate, Fitted, SetBelow, Set}

-- what is made of the lines is the state's codelet
pub the_codelet : (r : Lines) (s : ℕ) (c : Codelet) → c.lines ≡ r.lines → c.inner ≡ inner_of r s → c.read ≡ read_of r s → c ≡ codelet_of r s
unfolding codelet_of
the_codelet r s c p q e = same_codelets c (codelet_of r s) p q e

-- 64 numbers are room enough
pub room : (n : ℕ) (numbers : List ℕ) → n ≤ 64 → length numbers ≡ 64 → has_room n numbers ≡ true
room n numbers h long = and_from _ _ (lt-ltb n 4294967295 (omega arith)) (le-leb n (length numbers) (omega arith))

module _ (takes : Codelet → Decided → Source → Bool) where
  -- the answer that was got is the answer on the state's own codelet and update
  pub answered : (r : Lines) (s : ℕ) (c : Codelet) (d : Decided) (u : Source) (b t : Bool) → c ≡ codelet_of r s → d ≡ undecided → u ≡ update_of r s → b ≡ takes c d u → b ≡ t → takes (codelet_of r s) undecided (update_of r s) ≡ t
  answered r s c d u b t p q e f g = rw (← p, ← q, ← e) (sym f ∙ g)

  named_untaken : (r : Lines) (s : ℕ) → is_named r s ≡ true → takes (codelet_of r s) undecided (update_of r s) ≡ false → untaken takes r s ≡ true
  named_untaken r s n e = and_from _ _ n (not_from_false _ e)

  module _ (plus minus : ℕ → ℕ → ℕ) (ran : List ℕ → ℕ → Packet → ℕ) (r : Lines) where
    -- what was fitted, kept where the answer was yes
    pub fitted : (s : ℕ) (b : Bool) (setting : List ℕ) → takes (codelet_of r s) undecided (update_of r s) ≡ b → (b ≡ true → FitsUpdate plus minus takes ran r s setting) → Fitted plus minus takes ran r s (then_some b setting)
    fitted s true setting e f = (e, f refl)
    fitted s false setting e f = e

    pub set_none : (settings : List (List ℕ)) → SetBelow plus minus takes ran r 0 settings
    set_none settings = record { taken = λ s h. absurd (omega arith); right = λ s h. absurd (omega arith) }

    -- a state that no statement names
    pub set_unnamed : (n : ℕ) (settings more : List (List ℕ)) → more ≡ settings → is_named r n ≡ false → SetBelow plus minus takes ran r n settings → SetBelow plus minus takes ran r (n + 1) more
    set_unnamed n settings more q e b =
        rw q (record {
          taken = λ s h. ⊎_elim (λ i. rw i (and_left (is_named r n) _ e)) (λ i. b.taken s (omega arith)) (cases_eq s n);
          right = λ s h k. ⊎_elim (λ (i : s ≡ n). absurd (both_ways (is_named r n) e (rw i at k))) (λ i. b.right s (omega arith) k) (cases_eq s n);
        })

    -- a state whose update is taken
    pub set_taken : (n : ℕ) (settings more : List (List ℕ)) (o : Option (List ℕ)) (setting : List ℕ) → more ≡ set settings n setting → n < length settings → o ≡ Some setting → Fitted plus minus takes ran r n o → SetBelow plus minus takes ran r n settings → SetBelow plus minus takes ran r (n + 1) more
    set_taken n settings more o setting q long e f b =
        let fit : Fitted plus minus takes ran r n (Some setting) = rw e at f in
        rw q (record {
          taken = λ s h. ⊎_elim (λ i. rw i (and_right (is_named r n) _ (not_from_true _ fit.0))) (λ i. b.taken s (omega arith)) (cases_eq s n);
          right = λ s h k. ⊎_elim (λ (i : s ≡ n). rw (i, get_or-set_same settings n setting [] long) fit.1) (λ i. rw (get_or-set_other settings n s setting [] i) (b.right s (omega arith) k)) (cases_eq s n);
        })

    pub set_all : (n : ℕ) (settings : List (List ℕ)) → 8 ≤ n → SetBelow plus minus takes ran r n settings → SetBelow plus minus takes ran r 8 settings
    set_all n settings h b = record { taken = λ s k. b.taken s (omega arith); right = λ s k. b.right s (omega arith) }

    -- a state whose update is not taken
    pub set_refused : (n : ℕ) (settings : List (List ℕ)) (o : Option (List ℕ)) (a : Result (List (List ℕ)) AtomFault) → a ≡ Err (Update n) → n < 8 → is_named r n ≡ true → o ≡ None → Fitted plus minus takes ran r n o → SetBelow plus minus takes ran r n settings → Set plus minus takes ran r a
    set_refused n settings o a e lt k none f b =
        let not_taken : Fitted plus minus takes ran r n None = rw none at f in
        rw e (lt, named_untaken r n k not_taken, b.taken)
