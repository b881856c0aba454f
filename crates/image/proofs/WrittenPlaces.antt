-- A kind, a target or an operand is read exactly where its written form stands. Assumes nothing.
use Rattle.std.proofs.Common.{◌≡◌, ℕ, ◌+◌, ◌≤◌, Bool, true, ltb, List, Some, refl, ap, subst₂, arith}
use Rattle.std.proofs.lemmas.Bool.{le-leb, leb-true}
use Rattle.std.proofs.lemmas.Bool.Decides.{nat_tests}
use Rattle.transaction.specs.declared.statement.Operand.{Operand}
use Rattle.transaction.specs.declared.statement.Operand.TheVariants.{Field, State, Constant}
use Rattle.transaction.specs.declared.statement.Target.{Target}
use Rattle.transaction.specs.declared.statement.Target.TheVariants.{Field as ToField, State as ToState}
use Rattle.transaction.specs.declared.statement.Place.{Place}
use Rattle.transaction.specs.declared.statement.Place.TheVariants.{Field as AtField, State as AtState, Constant as AtConstant}
use Rattle.transaction.specs.declared.statement.Kind.{Kind}
use Rattle.transaction.specs.declared.statement.Kind.TheVariants.{Copy, Add, Sub, Less, Equal, Choose, If, Else, End}
use Rattle.transaction.specs.Statements.{placed, kinded}
use Rattle.transaction.specs.WellFormed.{has, has_target}
use Rattle.image.specs.Reading.{got, named, kind_at, place_at, target_of, target_at, operand_of, operand_at}
use Rattle.image.specs.Writing.{number, kind_number, written_target, written_operand}
use Rattle.image.proofs.GoodReads.{carried, named_some, next_case, next_from}
use Rattle.image.proofs.Spans.{Spans, spans_join, spans_split}
use Rattle.image.proofs.WrittenNumbers.{number_from, number_to}

kinded_to : (n : ℕ) (k : Kind) → kinded n ≡ Some k → n ≡ kind_number k
kinded_to n k e = grind (arith, nat_tests)

kinded_from : (k : Kind) → (kinded (kind_number k) ≡ Some k) × (kind_number k ≤ 8)
kinded_from Copy = (refl, omega arith)
kinded_from Add = (refl, omega arith)
kinded_from Sub = (refl, omega arith)
kinded_from Less = (refl, omega arith)
kinded_from Equal = (refl, omega arith)
kinded_from Choose = (refl, omega arith)
kinded_from If = (refl, omega arith)
kinded_from Else = (refl, omega arith)
kinded_from End = (refl, omega arith)

pub kind_to : (bs : List ℕ) {at : ℕ} {k : Kind} {end : ℕ} → kind_at bs at ≡ got k end → Spans bs at (number (kind_number k)) end
kind_to bs {at} {k} {end} e =
    next_case _ _ e λ n i x e.
    let w = named_some (kinded n) at i e in
    subst₂ (λ (n i : ℕ). Spans bs at (number n) i) (kinded_to n k w.0) w.1 (number_to bs x).0

pub kind_from : (bs : List ℕ) {at : ℕ} (k : Kind) {end : ℕ} → Spans bs at (number (kind_number k)) end → kind_at bs at ≡ got k end
kind_from bs {at} k {end} p =
    let h = kinded_from k in
    next_from _ (number_from bs p (omega (arith, h.1))) (ap (named at end) h.0)

-- The number of a place, and whether it is there.
abbrev place_number : Place → ℕ
place_number (AtField i) = i
place_number (AtState k) = 16 + k
place_number AtConstant = 24

abbrev has_place : ℕ → ℕ → Place → Bool
has_place f s (AtField i) = ltb i f
has_place f s (AtState k) = ltb k s
has_place f s AtConstant = true

placed_to : (f s n : ℕ) (p : Place) → placed f s n ≡ Some p → (n ≡ place_number p) × (has_place f s p ≡ true)
placed_to f s n (AtField i) e = ((grind (arith, nat_tests)), (grind (arith, nat_tests)))
placed_to f s n (AtState k) e = ((grind (arith, nat_tests)), (grind (arith, nat_tests)))
placed_to f s n AtConstant e = ((grind (arith, nat_tests)), refl)

placed_from : (f s : ℕ) (p : Place) → f ≤ 16 → s ≤ 8 → has_place f s p ≡ true → (placed f s (place_number p) ≡ Some p) × (place_number p ≤ 24)
placed_from f s (AtField i) few fewer h = ((grind (arith, nat_tests)), (grind (arith, nat_tests)))
placed_from f s (AtState k) few fewer h = ((grind (arith, nat_tests)), (grind (arith, nat_tests)))
placed_from f s AtConstant few fewer h = (refl, omega arith)

module _ (bs : List ℕ) (f s : ℕ) where
  -- the forms that stand from `at` up to end, of what is there
  abbrev PlaceAt : ℕ → Place → ℕ → Type 0
  PlaceAt at p end = Spans bs at (number (place_number p)) end × (has_place f s p ≡ true)

  abbrev pub TargetAt : ℕ → Target → ℕ → Type 0
  TargetAt at t end = Spans bs at (written_target t) end × (has_target f s t ≡ true)

  abbrev pub OperandAt : ℕ → Operand → ℕ → Type 0
  OperandAt at a end = Spans bs at (written_operand a) end × (has f s a ≡ true)

module _ (bs : List ℕ) (f s : ℕ) where
  place_to : {at : ℕ} {p : Place} {end : ℕ} → place_at f s bs at ≡ got p end → PlaceAt bs f s at p end
  place_to {at} {p} {end} e =
      next_case _ _ e λ n i x e.
      let w = named_some (placed f s n) at i e in
      let y = placed_to f s n p w.0 in
      (subst₂ (λ (n i : ℕ). Spans bs at (number n) i) y.0 w.1 (number_to bs x).0, y.1)

  pub target_to : {at : ℕ} {t : Target} {end : ℕ} → target_at f s bs at ≡ got t end → TargetAt bs f s at t end
  target_to {at} {t} {end} e =
      next_case _ _ e λ p i x e. go p i (place_to x) e
    where
      go : (p : Place) (mid : ℕ) → PlaceAt bs f s at p mid → target_of at p mid ≡ got t end → TargetAt bs f s at t end
      go (AtField i) mid p e = carried (TargetAt bs f s at) e p
      go (AtState k) mid p e = carried (TargetAt bs f s at) e p
      go AtConstant mid p e = cc

  pub operand_to : {at : ℕ} {a : Operand} {end : ℕ} → operand_at f s bs at ≡ got a end → OperandAt bs f s at a end
  operand_to {at} {a} {end} e =
      next_case _ _ e λ p i x e. go p i (place_to x) e
    where
      go : (p : Place) (mid : ℕ) → PlaceAt bs f s at p mid → operand_of bs p mid ≡ got a end → OperandAt bs f s at a end
      go (AtField i) mid p e = carried (OperandAt bs f s at) e p
      go (AtState k) mid p e = carried (OperandAt bs f s at) e p
      go AtConstant mid p e =
          next_case _ _ e λ n i x e.
          let v = number_to bs x in
          carried (OperandAt bs f s at) e (spans_join bs p.0 v.0, le-leb n 4294967295 v.1)

module _ (bs : List ℕ) (f s : ℕ) (few : f ≤ 16) (fewer : s ≤ 8) where
  place_from : {at : ℕ} (p : Place) {end : ℕ} → PlaceAt bs f s at p end → place_at f s bs at ≡ got p end
  place_from {at} p {end} q =
      let h = placed_from f s p few fewer q.1 in
      next_from _ (number_from bs q.0 (omega (arith, h.1))) (ap (named at end) h.0)

  pub target_from : {at : ℕ} (t : Target) {end : ℕ} → TargetAt bs f s at t end → target_at f s bs at ≡ got t end
  target_from {at} (ToField i) q = next_from _ (place_from (AtField i) q) refl
  target_from {at} (ToState k) q = next_from _ (place_from (AtState k) q) refl

  pub operand_from : {at : ℕ} (a : Operand) {end : ℕ} → OperandAt bs f s at a end → operand_at f s bs at ≡ got a end
  operand_from (Field i) q = next_from _ (place_from (AtField i) q) refl
  operand_from (State k) q = next_from _ (place_from (AtState k) q) refl
  operand_from (Constant c) q =
      let p = spans_split bs (number 24) (number c) q.0 in
      next_from _ (place_from AtConstant (p.0, refl)) (next_from _ (number_from bs p.1 (leb-true c 4294967295 q.1)) refl)
