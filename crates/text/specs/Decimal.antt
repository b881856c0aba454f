-- Words in decimal. Assumes nothing.
use Rattle.std.specs.Prelude.{ℕ, ◌+◌, ◌*◌, ◌^◌, cond, List, Some, None, Option, nat_lt}
use Rattle.text.specs.declared.step.Step.{Step}
use Rattle.text.specs.declared.step.Step.TheVariants.{Onward, Whole, Stuck}
use Rattle.text.specs.Bytes.{blank, digit_of}
use Rattle.text.specs.Decoding.{Decoded, decoding}

-- a number with one digit more, which may not pass the top word
abbrev pub extended : ℕ → ℕ → Step ℕ
extended number next = cond (nat_lt (number * 10 + next) (2 ^ 32)) (Onward (Some (number * 10 + next))) Stuck

-- a digit begins a number or extends it; a blank stands behind a number, or where none is begun
abbrev pub decimal_step : Option ℕ → ℕ → Step ℕ
decimal_step None b = elim (digit_of 10 b) [ Some first ↦ Onward (Some first) | None ↦ cond (blank b) (Onward None) Stuck ]
decimal_step (Some number) b = elim (digit_of 10 b) [ Some next ↦ extended number next | None ↦ cond (blank b) (Whole number) Stuck ]

-- the words that a line writes
abbrev pub decimal_words : List ℕ → Decoded ℕ
decimal_words line = decoding decimal_step line
