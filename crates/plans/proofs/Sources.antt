-- Lines that read the same values make the same. Assumes nothing.
use Rattle.std.proofs.Common.{◌≡◌, ℕ, zero, suc, ◌<◌, true, false, ◌⊎◌, List, [], ◌∷◌, map, length, get_or, take, refl, ap, ◌∙◌, ap₂, inl, inr, arith}
use Rattle.std.proofs.lemmas.Bool.{both_ways, or_left, or_right, eq-eqb}
use Rattle.word.specs.Words.{less_than, equal_to, chosen}
use Rattle.meaning.specs.Serial.{Values}
use Rattle.lines.specs.declared.line.Source.{Source}
use Rattle.lines.specs.declared.line.Source.TheVariants.{Field, Line as Made, Constant}
use Rattle.lines.specs.declared.line.Line.{Line}
use Rattle.lines.specs.declared.line.Line.TheVariants.{Read, Copy, Add, Sub, Less, Equal, Choose, Write}
use Rattle.lines.specs.Layout.{is_line, reads_line, is_plain}
use Rattle.lines.specs.Work.{value_of, makes}
use Rattle.rows.specs.Sorts.{is_read}
use Rattle.resolving.specs.declared.packet.Packet.{Packet}
use Rattle.resolving.specs.Codelets.{value, makes as codelet_makes}

pub read_or_not : (l : Line) → ((s : ℕ) × (l ≡ Read s)) ⊎ (is_read l ≡ false)
read_or_not (Read s) = inl (s, refl)
read_or_not (Copy a) = inr refl
read_or_not (Add a b) = inr refl
read_or_not (Sub a b) = inr refl
read_or_not (Less a b) = inr refl
read_or_not (Equal a b) = inr refl
read_or_not (Choose c a b) = inr refl
read_or_not (Write s a) = inr refl

-- of fields that are the same, and lines that are the same where it is one of them
pub same_source : (fs gs vs us : List ℕ) (a : Source) → ((i : ℕ) → get_or fs i 0 ≡ get_or gs i 0) → ((m : ℕ) → is_line m a ≡ true → get_or vs m 0 ≡ get_or us m 0) → value_of fs vs a ≡ value_of gs us a
same_source fs gs vs us (Field i) f h = f i
same_source fs gs vs us (Made m) f h = h m (eq-eqb m m refl)
same_source fs gs vs us (Constant w) f h = refl

module _ (plus minus : ℕ → ℕ → ℕ) (v w : Values) (vs us : List ℕ) (f : (i : ℕ) → get_or v.fields i 0 ≡ get_or w.fields i 0) where
  abbrev Same : Source → Type 0
  Same a = value_of v.fields vs a ≡ value_of w.fields us a

  one : (a : Source) → ((m : ℕ) → is_line m a ≡ true → get_or vs m 0 ≡ get_or us m 0) → Same a
  one a h = same_source v.fields w.fields vs us a f h

  pub same_made : (l : Line) → is_read l ≡ false → ((m : ℕ) → reads_line m l ≡ true → get_or vs m 0 ≡ get_or us m 0) → makes plus minus v vs l ≡ makes plus minus w us l
  same_made (Read s) e h = absurd (both_ways _ e refl)
  same_made (Copy a) e h = one a (λ m q. h m (or_left _ _ q))
  same_made (Add a b) e h = ap₂ plus (one a (λ m q. h m (or_left _ _ q))) (one b (λ m q. h m (or_right (is_line m a) _ (or_left _ _ q))))
  same_made (Sub a b) e h = ap₂ minus (one a (λ m q. h m (or_left _ _ q))) (one b (λ m q. h m (or_right (is_line m a) _ (or_left _ _ q))))
  same_made (Less a b) e h = ap₂ less_than (one a (λ m q. h m (or_left _ _ q))) (one b (λ m q. h m (or_right (is_line m a) _ (or_left _ _ q))))
  same_made (Equal a b) e h = ap₂ equal_to (one a (λ m q. h m (or_left _ _ q))) (one b (λ m q. h m (or_right (is_line m a) _ (or_left _ _ q))))
  same_made (Choose c a b) e h =
      ap (λ x. chosen x (value_of v.fields vs a) (value_of v.fields vs b)) (one c (λ m q. h m (or_left _ _ q)))
      ∙ ap₂ (chosen (value_of w.fields us c)) (one a (λ m q. h m (or_right (is_line m c) _ (or_left _ _ q)))) (one b (λ m q. h m (or_right (is_line m c) _ (or_right (is_line m a) _ (or_left _ _ q)))))
  same_made (Write s a) e h = one a (λ m q. h m (or_left _ _ q))

-- a valuation gives a source what the lists that it has give it
pub value_as : (p : Packet) (a : Source) → value_of p.fields p.lines a ≡ value p a
value_as p (Field i) = refl
value_as p (Made n) = refl
value_as p (Constant w) = refl

-- and a plain line makes the same of either
module _ (plus minus : ℕ → ℕ → ℕ) (v : Values) (vs : List ℕ) (old : ℕ) where
  abbrev all : Packet
  all = record { fields = v.fields; lines = vs }

  pub makes_as : (l : Line) → is_plain l ≡ true → makes plus minus v vs l ≡ codelet_makes plus minus all old l
  makes_as (Read s) e = absurd (both_ways _ refl e)
  makes_as (Copy a) e = value_as all a
  makes_as (Add a b) e = ap₂ plus (value_as all a) (value_as all b)
  makes_as (Sub a b) e = ap₂ minus (value_as all a) (value_as all b)
  makes_as (Less a b) e = ap₂ less_than (value_as all a) (value_as all b)
  makes_as (Equal a b) e = ap₂ equal_to (value_as all a) (value_as all b)
  makes_as (Choose c a b) e =
      ap (λ x. chosen x (value_of v.fields vs a) (value_of v.fields vs b)) (value_as all c)
      ∙ ap₂ (chosen (value all c)) (value_as all a) (value_as all b)
  makes_as (Write s a) e = absurd (both_ways _ refl e)

-- two ways to read the first sources of a list
pub same_mapped : (f g : Source → ℕ) (n : ℕ) (xs : List Source) → ((i : ℕ) → i < length xs → f (get_or xs i (Constant 0)) ≡ g (get_or xs i (Constant 0))) → map f (take n xs) ≡ map g (take n xs)
same_mapped f g zero xs h = refl
same_mapped f g (suc n) [] h = refl
same_mapped f g (suc n) (x ∷ xs) h = ap₂ (λ a b. a ∷ b) (h 0 (omega arith)) (same_mapped f g n xs (λ i lt. h (suc i) (omega arith)))
