-- What lines make, worked out one after another. Assumes nothing.
use Rattle.std.specs.Prelude.{◌≡◌, ℕ, ◌<◌, List, [], ◌∷◌, ◌++◌, length, slice_index, slice_index_or}
use Rattle.word.specs.Words.{less_than, equal_to, chosen}
use Rattle.meaning.specs.Serial.{Values}
use Rattle.lines.specs.declared.line.Source.{Source}
use Rattle.lines.specs.declared.line.Source.TheVariants.{Field as Incoming, Line as Made, Constant as Fixed}
use Rattle.lines.specs.declared.line.Line.{Line}
use Rattle.lines.specs.declared.line.Line.TheVariants.{Read, Copy, Add, Sub, Less, Equal, Choose, Write}

-- what a source stands for, by the incoming fields and the values of the lines
abbrev pub value_of : List ℕ → List ℕ → Source → ℕ
value_of fs vs (Incoming i) = slice_index fs i
value_of fs vs (Made n) = slice_index vs n
value_of fs vs (Fixed c) = c

-- for a packet that meets these words
module _ (plus minus : ℕ → ℕ → ℕ) (v : Values) where
  -- what a line makes of the values of what it reads, a read line the old word
  abbrev pub makes : List ℕ → Line → ℕ
  makes vs (Read s) = slice_index v.words s
  makes vs (Copy a) = value_of v.fields vs a
  makes vs (Add a b) = plus (value_of v.fields vs a) (value_of v.fields vs b)
  makes vs (Sub a b) = minus (value_of v.fields vs a) (value_of v.fields vs b)
  makes vs (Less a b) = less_than (value_of v.fields vs a) (value_of v.fields vs b)
  makes vs (Equal a b) = equal_to (value_of v.fields vs a) (value_of v.fields vs b)
  makes vs (Choose c a b) = chosen (value_of v.fields vs c) (value_of v.fields vs a) (value_of v.fields vs b)
  makes vs (Write s a) = value_of v.fields vs a

  -- the values of more lines, each after those before it
  abbrev pub worked_on : List Line → List ℕ → List ℕ
  worked_on [] vs = vs
  worked_on (l ∷ ls) vs = worked_on ls (vs ++ (makes vs l ∷ []))

  abbrev pub worked : List Line → List ℕ
  worked ls = worked_on ls []

  -- each line has the value that it makes of the values of what it reads
  abbrev pub Satisfied : List Line → List ℕ → Type 0
  Satisfied ls vs = (n : ℕ) → n < length ls → slice_index vs n ≡ makes vs (slice_index_or ls n (Read 0))
