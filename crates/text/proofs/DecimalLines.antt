-- Lines that write words in decimal, and what completes any other. Assumes nothing.
use Rattle.std.proofs.Common.{◌≡◌, ℕ, ◌+◌, ◌*◌, ◌^◌, ◌<◌, ◌≤◌, true, List, [], ◌∷◌, ◌++◌, map, length, Some, None, decimal, sym, refl, ap, ◌∙◌, append_assoc, append-nil, zero-add, arith}
use Rattle.std.proofs.lemmas.Fmt.{decimal_is_IsNumeral}
use Rattle.std.proofs.lemmas.Bool.{and_parts, cond-true, lt-ltb}
use Rattle.std.proofs.lemmas.Bool.Decides.{nat_tests}
use Rattle.std.specs.List.{flat_map, AllByRecursion}
use Rattle.std.specs.Str.Parse.{AllDigits, IsNumeral, digits_value, digits_value_after}
use Rattle.std.specs.Char.{digit_value}
use Rattle.text.specs.declared.step.Step.TheVariants.{Onward, Whole}
use Rattle.text.specs.Bytes.{blank, digit_of}
use Rattle.text.specs.Decimal.{decimal_step, decimal_words}
use Rattle.text.specs.Decoding.{Decoded, decoded}
use Rattle.text.specs.Theorem.{blanks, spaced, NumeralsRead, DecimalsReadBack}
use Rattle.text.proofs.Faults.{Finishes}
use Rattle.text.proofs.Giving.{Gives, onward, whole, nothing_left, regrouped, past_blanks, to_end, digit_of_lem}

-- the end of the line completes a number that is begun
pub decimal_finishes : Finishes decimal_step
decimal_finishes None column items = ([], (items, refl))
decimal_finishes (Some number) column items = ([], (items ++ number ∷ [], refl))

skips : (b : ℕ) → blank b ≡ true → decimal_step None b ≡ Onward None
skips b e = grind (arith, nat_tests)

closes : (b number : ℕ) → blank b ≡ true → decimal_step (Some number) b ≡ Whole number
closes b number e = grind (arith, nat_tests)

opens : (b d : ℕ) → digit_of 10 b ≡ Some d → decimal_step None b ≡ Onward (Some d)
opens b d e = rw (e, decimal_step)

extends : (b number d : ℕ) → digit_of 10 b ≡ Some d → number * 10 + d < 2 ^ 32 → decimal_step (Some number) b ≡ Onward (Some (number * 10 + d))
extends b number d e h = rw (e, decimal_step) (cond-true _ _ _ (lt-ltb (number * 10 + d) (2 ^ 32) h))

value_after_ge : (n : ℕ) (ds : List ℕ) → n ≤ digits_value_after 10 n ds
value_after_ge n [] = omega arith
value_after_ge n (c ∷ ds) = omega (arith, value_after_ge (n * 10 + digit_value c) ds)

-- the digits past the first
read_digits :
    {items bs : List ℕ} {d : Decoded ℕ} (n : ℕ) (ds : List ℕ)
    → AllDigits 10 ds
    → digits_value_after 10 n ds < 2 ^ 32
    → Gives decimal_step (Some (digits_value_after 10 n ds)) items bs d
    → Gives decimal_step (Some n) items (ds ++ bs) d
read_digits n [] digits small h = h
read_digits n (c ∷ ds) digits small h =
    let word : n * 10 + digit_value c < 2 ^ 32 = omega (arith, value_after_ge (n * 10 + digit_value c) ds) in
    onward c _ (extends c n (digit_value c) (digit_of_lem 10 c (digit_value c) refl digits.0) word) (read_digits (n * 10 + digit_value c) ds digits.1 small h)

read_numeral :
    {items bs : List ℕ} {d : Decoded ℕ} (ds : List ℕ)
    → IsNumeral 10 ds
    → digits_value 10 ds < 2 ^ 32
    → Gives decimal_step (Some (digits_value 10 ds)) items bs d
    → Gives decimal_step None items (ds ++ bs) d
read_numeral [] numeral small h = absurd (omega (arith, numeral.0))
read_numeral (c ∷ ds) numeral small h =
    onward c _ (opens c (digit_value c) (digit_of_lem 10 c (digit_value c) refl numeral.1.0)) (read_digits (digit_value c) ds numeral.1.1 (rw zero-add at small) (rw zero-add at h))

-- the blanks behind a number
past_number : {items bs : List ℕ} {d : Decoded ℕ} (n : ℕ) (gap : List ℕ) → blanks gap ≡ true → 0 < length gap → Gives decimal_step None (items ++ n ∷ []) bs d → Gives decimal_step (Some n) items (gap ++ bs) d
past_number n [] e some h = absurd (omega arith)
past_number n (b ∷ gap) e some h = let p = and_parts (blank b) (blanks gap) e in whole b n (closes b n p.0) (past_blanks skips gap p.1 h)

last_number : {items : List ℕ} (n : ℕ) (behind : List ℕ) → blanks behind ≡ true → Gives decimal_step (Some n) items (behind ++ 32 ∷ []) (decoded (items ++ n ∷ []))
last_number n [] e = whole 32 n (closes 32 n refl) nothing_left
last_number n (b ∷ behind) e = let p = and_parts (blank b) (blanks behind) e in whole b n (closes b n p.0) (to_end skips behind p.1)

module _ (gap behind : List ℕ) (blank-gap : blanks gap ≡ true) (some-gap : 0 < length gap) (blank-behind : blanks behind ≡ true) where
  -- what follows a number
  read_more :
      (items : List ℕ) (n : ℕ) (numerals : List (List ℕ))
      → AllByRecursion (λ ds. IsNumeral 10 ds × (digits_value 10 ds < 2 ^ 32)) numerals
      → Gives decimal_step (Some n) items (flat_map (λ next. gap ++ next) numerals ++ (behind ++ 32 ∷ [])) (decoded (items ++ n ∷ map (digits_value 10) numerals))
  read_more items n [] each = last_number n behind blank-behind
  read_more items n (ds ∷ numerals) each =
      let more = read_numeral ds each.0.0 each.0.1 (read_more (items ++ n ∷ []) (digits_value 10 ds) numerals each.1) in
      regrouped (simp append_assoc) (ap decoded (append_assoc items (n ∷ []) (map (digits_value 10) (ds ∷ numerals)))) (past_number n gap blank-gap some-gap more)

  read_numerals : (numerals : List (List ℕ)) → AllByRecursion (λ ds. IsNumeral 10 ds × (digits_value 10 ds < 2 ^ 32)) numerals → Gives decimal_step None [] (spaced gap numerals ++ (behind ++ 32 ∷ [])) (decoded (map (digits_value 10) numerals))
  read_numerals [] each = to_end skips behind blank-behind
  read_numerals (ds ∷ numerals) each = regrouped (simp append_assoc) refl (read_numeral ds each.0.0 each.0.1 (read_more [] (digits_value 10 ds) numerals each.1))

pub numerals_read : NumeralsRead
numerals_read before gap behind numerals blank-before blank-gap some-gap blank-behind each =
    simp append_assoc ((past_blanks skips before blank-before (read_numerals gap behind blank-gap some-gap blank-behind numerals each)).at 0)

written : (words : List ℕ) → AllByRecursion (λ w. w < 2 ^ 32) words → AllByRecursion (λ ds. IsNumeral 10 ds × (digits_value 10 ds < 2 ^ 32)) (map decimal words) × (map (digits_value 10) (map decimal words) ≡ words)
written [] small = (tt, refl)
written (w ∷ words) small =
    let reads = decimal_is_IsNumeral w (omega (arith, small.0)) in
    let rest = written words small.1 in
    (((reads.0, rw reads.1 small.0), rest.0), cc (reads.1, rest.1))

pub decimals_read_back : DecimalsReadBack
decimals_read_back words small =
    let said = written words small in
    ap decimal_words (sym (append-nil (spaced (32 ∷ []) (map decimal words)))) ∙ numerals_read [] (32 ∷ []) [] (map decimal words) refl refl (omega arith) refl said.0 ∙ ap decoded said.1
