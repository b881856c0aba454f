-- The serial run: packets run alone, one after another, from zeroed words. Assumes nothing.
use Rattle.std.specs.Prelude.{ℕ, zero, suc, pred, List, [], ◌∷◌, replicate, slice_index_or}
use Rattle.transaction.specs.WellFormed.{Program}
use Rattle.meaning.specs.Serial.{Values, values, alone}

-- what a transaction's packet leaves, run alone, of the fields and the words that it meets
abbrev pub one_alone : (ℕ → ℕ → ℕ) → (ℕ → ℕ → ℕ) → Program → Values → Values
one_alone plus minus p v = alone plus minus p.statements v

abbrev pub zeroed : ℕ → List ℕ
zeroed states = replicate states 0

-- A packet is the list of its fields. `one` is what one packet leaves; of a transaction it is `one_alone`.
module _ (one : Values → Values) where
  -- the words after the first n packets, which meet the words ws
  abbrev pub words_from : List ℕ → ℕ → List (List ℕ) → List ℕ
  words_from ws n [] = ws
  words_from ws zero (fs ∷ packets) = ws
  words_from ws (suc n) (fs ∷ packets) = words_from (one (values fs ws)).words n packets

  -- the fields on leaving of packet n, counted from 1: it runs on the words that those before it left
  abbrev pub leaving_from : List ℕ → ℕ → List (List ℕ) → List ℕ
  leaving_from ws n packets = (one (values (slice_index_or packets (pred n) []) (words_from ws (pred n) packets))).fields

  -- both from zeroed words
  abbrev pub words_after : ℕ → ℕ → List (List ℕ) → List ℕ
  words_after states n packets = words_from (zeroed states) n packets

  abbrev pub leaving : ℕ → ℕ → List (List ℕ) → List ℕ
  leaving states n packets = leaving_from (zeroed states) n packets
