-- The calls of a machine, their answers, and when a call is refused. Assumes nothing.
use Rattle.std.specs.Prelude.{ℕ, Bool, true, false, not, List, ◌==◌, nat_lt}
use Rattle.transaction.specs.declared.refusal.Refusal.{Refusal}
use Rattle.transaction.specs.Faults.{refusal}
use Rattle.word.specs.Words.{top}
use Rattle.image.specs.Reading.{Answer}
use Rattle.image.specs.Reading.Answer.{good, bad}

-- what is asked: the fields to feed, the length of the buffer to take into, the state to peek at
pub data Call : Type 0 where
  Feed : List ℕ → Call
  Tick : Call
  Take : ℕ → Call
  Peek : ℕ → Call

-- what a call that is not refused comes to: nothing to tell, a packet's fields, or a word with a count
pub data Outcome : Type 0 where
  done : Outcome
  packet : List ℕ → Outcome
  word : ℕ → ℕ → Outcome

-- refused where the test holds
abbrev pub refused_if : Bool → Refusal → Answer Outcome → Answer Outcome
refused_if true r a = bad r
refused_if false r a = a

-- The refusals of the four calls, in the order of their checks.
-- feed: fields that a packet has, those in the buffer, packets fed so far, whether the entry holds one
abbrev pub feeding : ℕ → ℕ → ℕ → Bool → Answer Outcome
feeding width n fed full =
    refused_if (not (n == width)) (refusal 11 n) (refused_if (fed == top) (refusal 13 0) (refused_if full (refusal 12 0) (good done)))

-- tick: the exit's place, whether it holds a packet
abbrev pub ticking : ℕ → Bool → Answer Outcome
ticking depth full = refused_if full (refusal 14 depth) (good done)

-- take: fields that a packet has, the buffer's length, the exit's place, whether it holds a packet, with which fields
abbrev pub taking : ℕ → ℕ → ℕ → Bool → List ℕ → Answer Outcome
taking width n depth full fs =
    refused_if (not (n == width)) (refusal 11 n) (refused_if (not full) (refusal 15 depth) (good (packet fs)))

-- peek: how many states there are, which is asked for, its word and count
abbrev pub peeking : ℕ → ℕ → ℕ → ℕ → Answer Outcome
peeking states s w n = refused_if (not (nat_lt s states)) (refusal 16 s) (good (word w n))
