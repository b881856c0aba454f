-- A line that writes an image and the numbers that go with it. Assumes nothing.
use Rattle.std.specs.Prelude.{◌≡◌, ℕ, ◌==◌, List, [], ◌∷◌, ◌⊎◌, Ok, Err, Result, take, drop, if◌then◌else◌}
use Rattle.text.specs.declared.fault.TextFault.{TextFault}
use Rattle.text.specs.declared.fault.TextFault.TheVariants.{Malformed, Memory}
use Rattle.text.specs.Bytes.{First}
use Rattle.text.specs.Decimal.{decimal_words}
use Rattle.text.specs.Decoding.{decoded, malformed}
use Rattle.text.specs.Hexadecimal.{hexadecimal}
use Rattle.text.specs.Told.{fault_behind}

-- the digits of the image that a word stands for: none where it is a lone `-`, which is byte 45
abbrev pub image_digits : List ℕ → List ℕ
image_digits [] = []
image_digits (b ∷ []) = if b == 45 then [] else b ∷ []
image_digits (b ∷ c ∷ bs) = b ∷ c ∷ bs

-- what a call answers where the line's first word ends at `end`, and what the two Vecs hold then: the word is decoded first,
-- and a fault's column is counted from the line's start; memory may be wanting at any line
abbrev pub RequestCut : List ℕ → ℕ → Result (Unit {0}) TextFault → List ℕ → List ℕ → Type 0
RequestCut line end (Ok _) image numbers = (hexadecimal (image_digits (take end line)) ≡ decoded image) × (decimal_words (drop end line) ≡ decoded numbers)
RequestCut line end (Err (Malformed column)) image numbers =
    (hexadecimal (image_digits (take end line)) ≡ malformed column)
    ⊎ ((hexadecimal (image_digits (take end line)) ≡ decoded image)
    × ((behind : ℕ) × (decimal_words (drop end line) ≡ malformed behind) × (Malformed column ≡ fault_behind end (Malformed behind))))
RequestCut line end (Err Memory) image numbers = Unit {0}

abbrev pub Requests : List ℕ → Result (Unit {0}) TextFault → List ℕ → List ℕ → Type 0
Requests line result image numbers = (end : ℕ) × First 32 line 0 end × RequestCut line end result image numbers
