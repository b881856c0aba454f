-- Lines that write bytes in hexadecimal, and what completes any other. Assumes nothing.
use Rattle.std.proofs.Common.{◌≡◌, ℕ, ◌+◌, ◌*◌, ◌/◌, ◌%◌, ◌^◌, ◌<◌, Bool, true, false, cond, List, [], ◌∷◌, ◌++◌, map, length, Some, None, sym, refl, ap, ◌∙◌, append_assoc, append-nil, arith}
use lib.Bits.{bit_or, or_shifted}
use Rattle.std.proofs.lemmas.Bool.Decides.{nat_tests}
use Rattle.std.specs.List.{flat_map, AllByRecursion}
use Rattle.std.specs.Str.Parse.{AllDigits, digits_value}
use Rattle.std.specs.Char.{digit_value}
use Rattle.text.specs.declared.step.Step.TheVariants.{Onward, Whole}
use Rattle.text.specs.Bytes.{blank, digit_of}
use Rattle.text.specs.Decoding.{Decoded, decoded}
use Rattle.text.specs.Hexadecimal.{hex_step, hexadecimal}
use Rattle.text.specs.Theorem.{blanks, spaced, hex_digit, hex_pair, PairsRead, HexReadsBack}
use Rattle.text.proofs.Faults.{Finishes}
use Rattle.text.proofs.Giving.{Gives, onward, whole, regrouped, past_blanks, to_end, digit_of_lem}

-- a second digit completes a byte that is begun
pub hex_finishes : Finishes hex_step
hex_finishes None column items = ([], (items, refl))
hex_finishes (Some high) column items = (48 ∷ [], (items ++ bit_or high 0 ∷ [], refl))

hex_skips : (b : ℕ) → blank b ≡ true → hex_step None b ≡ Onward None
hex_skips b e = grind (arith, nat_tests)

hex_digit_lem : (big : Bool) (d : ℕ) → d < 16 → digit_value (hex_digit big d) ≡ d
hex_digit_lem true d h = grind (arith, nat_tests)
hex_digit_lem false d h = grind (arith, nat_tests)

hex_high : (b d : ℕ) → digit_of 16 b ≡ Some d → hex_step None b ≡ Onward (Some (d * 16))
hex_high b d e = rw (e, hex_step)

hex_low : (b high low : ℕ) → digit_of 16 b ≡ Some low → hex_step (Some high) b ≡ Whole (bit_or high low)
hex_low b high low e = rw (e, hex_step)

-- the value of a pair
joins : (high low : ℕ) → low < 16 → bit_or (high * 16) low ≡ (0 + high) * 16 + low
joins high low small = or_shifted high 4 low small ∙ omega arith

read_pair : {items bs : List ℕ} {d : Decoded ℕ} (ds : List ℕ) → AllDigits 16 ds → length ds ≡ 2 → Gives hex_step None (items ++ digits_value 16 ds ∷ []) bs d → Gives hex_step None items (ds ++ bs) d
read_pair [] digits two h = absurd (omega arith)
read_pair (c ∷ []) digits two h = absurd (omega arith)
read_pair (c ∷ e ∷ f ∷ ds) digits two h = absurd (omega arith)
read_pair (c ∷ e ∷ []) digits two h =
    let first = hex_high c (digit_value c) (digit_of_lem 16 c (digit_value c) refl digits.0) in
    let second = hex_low e (digit_value c * 16) (digit_value e) (digit_of_lem 16 e (digit_value e) refl digits.1.0) in
    onward _ _ first (whole _ _ (second ∙ ap Whole (joins (digit_value c) (digit_value e) digits.1.0)) h)

module _ (gap behind : List ℕ) (blank-gap : blanks gap ≡ true) (blank-behind : blanks behind ≡ true) where
  -- the pairs past the first
  read_more :
      (items : List ℕ) (pairs : List (List ℕ))
      → AllByRecursion (λ ds. AllDigits 16 ds × (length ds ≡ 2)) pairs
      → Gives hex_step None items (flat_map (λ next. gap ++ next) pairs ++ (behind ++ 32 ∷ [])) (decoded (items ++ map (digits_value 16) pairs))
  read_more items [] each = rw append-nil (to_end hex_skips behind blank-behind)
  read_more items (ds ∷ pairs) each =
      let more = read_pair ds each.0.0 each.0.1 (read_more (items ++ digits_value 16 ds ∷ []) pairs each.1) in
      regrouped (simp append_assoc) (ap decoded (append_assoc items (digits_value 16 ds ∷ []) (map (digits_value 16) pairs))) (past_blanks hex_skips gap blank-gap more)

  read_pairs : (pairs : List (List ℕ)) → AllByRecursion (λ ds. AllDigits 16 ds × (length ds ≡ 2)) pairs → Gives hex_step None [] (spaced gap pairs ++ (behind ++ 32 ∷ [])) (decoded (map (digits_value 16) pairs))
  read_pairs [] each = to_end hex_skips behind blank-behind
  read_pairs (ds ∷ pairs) each = regrouped (simp append_assoc) refl (read_pair ds each.0.0 each.0.1 (read_more (digits_value 16 ds ∷ []) pairs each.1))

pub pairs_read : PairsRead
pairs_read before gap behind pairs blank-before blank-gap blank-behind each =
    simp append_assoc ((past_blanks hex_skips before blank-before (read_pairs gap behind blank-gap blank-behind pairs each)).at 0)

written : (big : Bool) (bytes : List ℕ) → AllByRecursion (λ b. b < 2 ^ 8) bytes → AllByRecursion (λ ds. AllDigits 16 ds × (length ds ≡ 2)) (map (hex_pair big) bytes) × (map (digits_value 16) (map (hex_pair big) bytes) ≡ bytes)
written big [] small = (tt, refl)
written big (b ∷ bytes) small =
    let high : b / 16 < 16 = omega (arith, small.0) in
    let low : b % 16 < 16 = omega arith in
    let first = hex_digit_lem big (b / 16) high in
    let second = hex_digit_lem big (b % 16) low in
    let is : digits_value 16 (hex_pair big b) ≡ b = omega (arith, first, second) in
    let rest = written big bytes small.1 in
    ((((rw first high, (rw second low, tt)), refl), rest.0), cc (is, rest.1))

gap_blank : (space : Bool) → blanks (cond space (32 ∷ []) []) ≡ true
gap_blank true = refl
gap_blank false = refl

pub hex_reads_back : HexReadsBack
hex_reads_back big space bytes small =
    let gap : List ℕ = cond space (32 ∷ []) [] in
    let said = written big bytes small in
    ap hexadecimal (sym (append-nil (spaced gap (map (hex_pair big) bytes)))) ∙ pairs_read [] gap [] (map (hex_pair big) bytes) refl (gap_blank space) refl said.0 ∙ ap decoded said.1
