-- A worked example: packets that sum up their fields 0 in a state, two of them in a pipeline of two stages. Assumes nothing.
use Rattle.std.specs.Prelude.{ℕ, ◌+◌, ◌-◌, ◌%◌, ◌^◌, cond, List, [], ◌∷◌, ◌++◌, take, ◌==◌, slice_index, slice_set}
use Rattle.transaction.specs.declared.statement.Operand.TheVariants.{Field, State}
use Rattle.transaction.specs.declared.statement.Target.TheVariants.{Field as ToField, State as ToState}
use Rattle.transaction.specs.declared.statement.Statement.TheVariants.{Copy, Add}
use Rattle.transaction.specs.Faults.{refusal}
use Rattle.transaction.specs.WellFormed.{Program}
use Rattle.meaning.specs.Serial.{Values}
use Rattle.image.specs.Reading.{Answer}
use Rattle.image.specs.Reading.Answer.{good, bad}
use Rattle.book.specs.Run.{one_alone}
use Rattle.book.specs.Calls.{Call, Outcome}
use Rattle.book.specs.Calls.Call.{Feed, Tick, Take, Peek}
use Rattle.book.specs.Calls.Outcome.{done, packet, word}
use Rattle.book.specs.Book.{Shape}
use Rattle.book.specs.Pipeline.{Pipeline}

-- f1 := s0; s0 := s0 + f0
abbrev pub summing : Program
summing = record { fields = 2; states = 1; statements = Copy (ToField 1) (State 0) ∷ Add (ToState 0) (State 0) (Field 0) ∷ [] }

-- modulo 2^32
abbrev pub wrap_sum : ℕ → ℕ → ℕ
wrap_sum a b = (a + b) % 2 ^ 32

abbrev pub wrap_difference : ℕ → ℕ → ℕ
wrap_difference a b = (a + (2 ^ 32 - b)) % 2 ^ 32

abbrev pub summed : Values → Values
summed v = one_alone wrap_sum wrap_difference summing v

-- the atom of the state in stage 1, the copy in stage 2
abbrev pub two_stages : Shape
two_stages = record { depth = 2; width = 2; states = 1; stage = λ _. 1 }

-- a packet carries its fields and, from stage 1 on, the old word
abbrev pub worked : ℕ → List ℕ → List ℕ → List ℕ
worked k row ws = cond (k == 1) (slice_set row 2 (slice_index ws 0)) (slice_set row 1 (slice_index row 2))

abbrev pub summing_pipeline : Pipeline (List ℕ)
summing_pipeline =
    record {
      shape = two_stages;
      blank = [];
      enter = λ fs. fs ++ 0 ∷ [];
      work = worked;
      run = λ s old row. wrap_sum old (slice_index row 0);
      leave = λ row. take 2 row;
    }

abbrev pub calls : List Call
calls =
    Take 2
    ∷ Feed (5 ∷ 0 ∷ [])
    ∷ Feed (7 ∷ 0 ∷ [])
    ∷ Peek 0
    ∷ Tick
    ∷ Peek 0
    ∷ Feed (7 ∷ 0 ∷ [])
    ∷ Feed (7 ∷ [])
    ∷ Tick
    ∷ Tick
    ∷ Take 3
    ∷ Take 2
    ∷ Tick
    ∷ Take 2
    ∷ Peek 0
    ∷ Peek 1
    ∷ []

abbrev pub told : List (Answer Outcome)
told =
    bad (refusal 15 2)
    ∷ good done
    ∷ bad (refusal 12 0)
    ∷ good (word 0 0)
    ∷ good done
    ∷ good (word 5 1)
    ∷ good done
    ∷ bad (refusal 11 1)
    ∷ good done
    ∷ bad (refusal 14 2)
    ∷ bad (refusal 11 3)
    ∷ good (packet (5 ∷ 0 ∷ []))
    ∷ good done
    ∷ good (packet (7 ∷ 5 ∷ []))
    ∷ good (word 12 2)
    ∷ bad (refusal 16 1)
    ∷ []
