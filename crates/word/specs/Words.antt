-- Words and their comparisons. Assumes nothing.
use Rattle.std.specs.Prelude.{ℕ, ◌^◌, ◌<◌, Bool, true, false, cond, not, ◌==◌, nat_lt}

-- a whole number from 0 to 4,294,967,295
abbrev pub Word : ℕ → Type 0
Word n = n < 2 ^ 32

abbrev pub top : ℕ
top = 4294967295

-- a word is true when it is not 0
abbrev pub truth : ℕ → Bool
truth n = not (n == 0)

abbrev pub bit : Bool → ℕ
bit true = 1
bit false = 0

-- the comparisons: of whole numbers, 1 or 0
abbrev pub less_than : ℕ → ℕ → ℕ
less_than a b = bit (nat_lt a b)

abbrev pub equal_to : ℕ → ℕ → ℕ
equal_to a b = bit (a == b)

-- a if c is true, else b
abbrev pub chosen : ℕ → ℕ → ℕ → ℕ
chosen c a b = cond (truth c) a b
