-- What a read that gave a value says of its parts. Assumes nothing.
use Rattle.std.proofs.Common.{◌≡◌, ℕ, Bool, true, false, cond, Some, None, Option, refl, ap, ◌∙◌, subst₂}
use Rattle.transaction.specs.declared.refusal.Refusal.{Refusal}
use Rattle.image.specs.Reading.{Read, got, refused, next, named, good, answer}

module _ {A : Type 0} where
  -- what holds of a value and the offset after it
  pub carried : (P : A → ℕ → Type 0) {x y : A} {at end : ℕ} → got x at ≡ got y end → P x at → P y end
  carried P {x} {y} {at} {end} e p =
      let value : x ≡ y = cc in
      let offset : at ≡ end = cc in
      subst₂ P value offset p

  -- a test that refuses where it is true
  pub unless : (u : Bool) (r : Refusal) (at : ℕ) {z : Read A} {x : A} {end : ℕ} → cond u (refused r at) z ≡ got x end → (u ≡ false) × (z ≡ got x end)
  unless true r at e = cc
  unless false r at e = (refl, e)

  -- a test that refuses where it is false
  pub only_where : (u : Bool) (r : Refusal) (at : ℕ) {z : Read A} {x : A} {end : ℕ} → cond u z (refused r at) ≡ got x end → (u ≡ true) × (z ≡ got x end)
  only_where true r at e = (refl, e)
  only_where false r at e = cc

  pub named_some : (o : Option A) (start at : ℕ) {x : A} {end : ℕ} → named start at o ≡ got x end → (o ≡ Some x) × (at ≡ end)
  named_some (Some y) start at e = ((cc), (cc))
  named_some None start at e = cc

  pub answer_good : (r : Read A) {x : A} → answer r ≡ good x → (end : ℕ) × (r ≡ got x end)
  answer_good (got y at) {x} e = let same : y ≡ x = cc in (at, ap (λ (z : A). got z at) same)
  answer_good (refused n at) e = cc

module _ {A B : Type 0} where
  -- one thing and then another: the first, and the second from the offset after it
  pub next_case : {C : Type 0} (r : Read A) (F : A → ℕ → Read B) {b : B} {end : ℕ} → next r F ≡ got b end → ((a : A) (mid : ℕ) → r ≡ got a mid → F a mid ≡ got b end → C) → C
  next_case (got a at) F e go = go a at refl e
  next_case (refused n at) F e go = cc

  pub next_from : {r : Read A} {a : A} {mid : ℕ} (F : A → ℕ → Read B) {b : B} {end : ℕ} → r ≡ got a mid → F a mid ≡ got b end → next r F ≡ got b end
  next_from F e then = ap (λ (x : Read A). next x F) e ∙ then
