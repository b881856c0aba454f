-- Blanks, digits, and where a byte stands. Assumes nothing.
use Rattle.std.specs.Prelude.{◌≡◌, ℕ, ◌<◌, ◌≤◌, Bool, cond, ◌||◌, List, length, Some, None, Option, ◌==◌, ◌≢◌, nat_lt, slice_index}
use Rattle.std.specs.Char.{digit_value}

-- a space, a tab or a carriage return
abbrev pub blank : ℕ → Bool
blank b = b == 32 || b == 9 || b == 13

-- the digit that a byte writes, if it writes one below the radix; a letter of either case writes ten or more
abbrev pub digit_of : ℕ → ℕ → Option ℕ
digit_of radix b = cond (nat_lt (digit_value b) radix) (Some (digit_value b)) None

-- the index of the first such byte at or after `from`, or the length where there is none
pub record First (byte : ℕ) (bytes : List ℕ) (from end : ℕ) : Type 0 where
  pub within : end ≤ length bytes
  pub forward : from ≤ length bytes → from ≤ end
  pub before : (k : ℕ) → from ≤ k → k < end → slice_index bytes k ≢ byte
  pub found : end < length bytes → (from ≤ end) × (slice_index bytes end ≡ byte)
