-- A line has an owner exactly when it is in some codelet. Assumes nothing.
use Rattle.std.proofs.Common.{◌≡◌, ℕ, true, false, eqb, List, get_or, is_some, Some, None, Option, sym, refl, ap, ◌∙◌}
use Rattle.std.proofs.lemmas.Bool.{both_ways, and_parts, eq-eqb, false_from_ne_true}
use Rattle.std.specs.Option.{option_eq}
use Rattle.graph.proofs.Rounds.{some_decides}
use Rattle.lines.specs.declared.lines.Lines.{Lines}
use Rattle.codelets.specs.Codelets.{is_named, in_codelet, is_owner, Owned}
use Rattle.codelets.specs.Inner.{owned}
use Rattle.codelets.proofs.Paths.{named_below}

-- equal to Some s, as the code compares
pub owner_eq : (o : Option ℕ) (s : ℕ) → option_eq eqb o (Some s) ≡ is_owner o s
owner_eq None s = refl
owner_eq (Some t) s = refl

module _ (r : Lines) (owner : List (Option ℕ)) (o : Owned r owner) (n : ℕ) where
  pub owner_one : (s : ℕ) → get_or owner n None ≡ Some s → in_codelet r s n ≡ true
  owner_one s e = sym (o s n) ∙ (ap (λ x. is_owner x s) e ∙ eq-eqb s s refl)

  pub owner_none : get_or owner n None ≡ None → (s : ℕ) → in_codelet r s n ≡ false
  owner_none e s = sym (o s n) ∙ ap (λ x. is_owner x s) e

  pub owned_is : is_some (get_or owner n None) ≡ owned r n
  owned_is = by_owner (get_or owner n None) refl
    where
      by_owner : (o : Option ℕ) → get_or owner n None ≡ o → is_some o ≡ owned r n
      by_owner (Some s) e = sym ((some_decides (λ s. in_codelet r s n) 8).1 (s, named_below r s (and_parts (is_named r s) _ (owner_one s e)).0, owner_one s e))
      by_owner None e = sym (false_from_ne_true (owned r n) (λ t. let (s, h, i) = (some_decides (λ s. in_codelet r s n) 8).0 t in both_ways _ (owner_none e s) i))
