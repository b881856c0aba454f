-- Bytes in hexadecimal. Assumes nothing.
use Rattle.std.specs.Prelude.{ℕ, ◌*◌, cond, List, Some, None, Option, bit_or}
use Rattle.text.specs.declared.step.Step.{Step}
use Rattle.text.specs.declared.step.Step.TheVariants.{Onward, Whole, Stuck}
use Rattle.text.specs.Bytes.{blank, digit_of}
use Rattle.text.specs.Decoding.{Decoded, decoding}

-- a digit begins a byte, sixteen times its value; a second digit completes it; a blank stands only where no byte is begun
abbrev pub hex_step : Option ℕ → ℕ → Step ℕ
hex_step None b = elim (digit_of 16 b) [ Some high ↦ Onward (Some (high * 16)) | None ↦ cond (blank b) (Onward None) Stuck ]
hex_step (Some high) b = elim (digit_of 16 b) [ Some low ↦ Whole (bit_or high low) | None ↦ Stuck ]

-- the bytes that a line writes
abbrev pub hexadecimal : List ℕ → Decoded ℕ
hexadecimal line = decoding hex_step line
