-- What the lines that write bytes or words decode to, and which column is told of any other. Assumes nothing.
use Rattle.std.specs.Prelude.{◌≡◌, ℕ, ◌+◌, ◌/◌, ◌%◌, ◌^◌, ◌<◌, ◌≤◌, Bool, true, cond, ◌&&◌, List, [], ◌∷◌, ◌++◌, map, length, take, decimal}
use Rattle.std.specs.List.{flat_map, AllByRecursion}
use Rattle.std.specs.Str.Parse.{AllDigits, IsNumeral, digits_value}
use Rattle.std.specs.Char.{digit_char, to_ascii_uppercase}
use Rattle.text.specs.Bytes.{blank}
use Rattle.text.specs.Decimal.{decimal_words}
use Rattle.text.specs.Decoding.{Decoded, decoded, malformed}
use Rattle.text.specs.Hexadecimal.{hexadecimal}

-- nothing but blanks
abbrev pub blanks : List ℕ → Bool
blanks [] = true
blanks (b ∷ bs) = blank b && blanks bs

-- texts in a row, with a gap between two
abbrev pub spaced : List ℕ → List (List ℕ) → List ℕ
spaced gap [] = []
spaced gap (text ∷ texts) = text ++ flat_map (λ next. gap ++ next) texts

-- a digit below sixteen, in upper or in lower case
abbrev pub hex_digit : Bool → ℕ → ℕ
hex_digit big d = cond big (to_ascii_uppercase (digit_char d)) (digit_char d)

-- a byte as two digits, the high one first
abbrev pub hex_pair : Bool → ℕ → List ℕ
hex_pair big b = hex_digit big (b / 16) ∷ hex_digit big (b % 16) ∷ []

-- pairs of digits in a row, in upper or lower case, with any blanks before, between and behind them: each is read as its value
abbrev pub PairsRead : Type 0
PairsRead =
    (before gap behind : List ℕ) (pairs : List (List ℕ))
    → blanks before ≡ true
    → blanks gap ≡ true
    → blanks behind ≡ true
    → AllByRecursion (λ ds. AllDigits 16 ds × (length ds ≡ 2)) pairs
    → hexadecimal (before ++ (spaced gap pairs ++ behind)) ≡ decoded (map (digits_value 16) pairs)

-- a line that writes bytes as two digits each, with single spaces or nothing between them, is decoded to those bytes
abbrev pub HexReadsBack : Type 0
HexReadsBack = (big space : Bool) (bytes : List ℕ) → AllByRecursion (λ b. b < 2 ^ 8) bytes → hexadecimal (spaced (cond space (32 ∷ []) []) (map (hex_pair big) bytes)) ≡ decoded bytes

-- numerals in a row, with blanks between them: each is read as its value, leading zeros or not, where that is a word
abbrev pub NumeralsRead : Type 0
NumeralsRead =
    (before gap behind : List ℕ) (numerals : List (List ℕ))
    → blanks before ≡ true
    → blanks gap ≡ true
    → 0 < length gap
    → blanks behind ≡ true
    → AllByRecursion (λ ds. IsNumeral 10 ds × (digits_value 10 ds < 2 ^ 32)) numerals
    → decimal_words (before ++ (spaced gap numerals ++ behind)) ≡ decoded (map (digits_value 10) numerals)

-- a line that writes words in decimal, with single spaces between them, is decoded to those words
abbrev pub DecimalsReadBack : Type 0
DecimalsReadBack = (words : List ℕ) → AllByRecursion (λ w. w < 2 ^ 32) words → decimal_words (spaced (32 ∷ []) (map decimal words)) ≡ decoded words

-- some line that begins so is decoded
abbrev pub Begins : (List ℕ → Decoded ℕ) → List ℕ → Type 0
Begins decode front = (rest : List ℕ) × ((items : List ℕ) × (decode (front ++ rest) ≡ decoded items))

-- the column of a malformed line: what stands before it begins a line that is decoded, and with the byte that stands there it begins none;
-- where no byte stands there, the line ends too soon
abbrev pub FirstFault : (List ℕ → Decoded ℕ) → Type 0
FirstFault decode =
    (line : List ℕ) (column : ℕ)
    → decode line ≡ malformed column
    → (column ≤ length line) × Begins decode (take column line) × (column < length line → Begins decode (take (column + 1) line) → ⊥)
