-- What a run of calls shows, in its calls and answers alone. Assumes nothing.
use Rattle.std.specs.Prelude.{◌≡◌, ℕ, suc, ◌+◌, ◌<◌, ◌≤◌, cond, List, [], ◌∷◌, ◌++◌, map, length, Some, None, ◌≢◌, nat_le, slice_index, slice_index_or}
use Rattle.meaning.specs.Serial.{Values}
use Rattle.image.specs.Reading.{Answer}
use Rattle.image.specs.Reading.Answer.{good, bad}
use Rattle.book.specs.Run.{words_after, leaving}
use Rattle.book.specs.Calls.{Call, Outcome}
use Rattle.book.specs.Calls.Call.{Feed, Tick, Take, Peek}
use Rattle.book.specs.Calls.Outcome.{done, packet, word}
use Rattle.book.specs.Book.{Shape, answers}
use Rattle.book.specs.Pipeline.{Contents, packet_at}

-- a call and its answer
pub record Exchange : Type 0 where
  pub call : Call
  pub answer : Answer Outcome

abbrev pub exchange : Call → Answer Outcome → Exchange
exchange c r = record { call = c; answer = r }

abbrev pub exchanges : List Call → List (Answer Outcome) → List Exchange
exchanges [] rs = []
exchanges (c ∷ cs) [] = []
exchanges (c ∷ cs) (r ∷ rs) = exchange c r ∷ exchanges cs rs

-- the packet that a call fed, if it was a feed that was not refused
abbrev pub fed_by : Call → Answer Outcome → List (List ℕ)
fed_by (Feed fs) (good o) = fs ∷ []
fed_by (Feed fs) (bad r) = []
fed_by Tick r = []
fed_by (Take n) r = []
fed_by (Peek s) r = []

-- 1 if it was a tick that was not refused
abbrev pub ticks_by : Call → Answer Outcome → ℕ
ticks_by (Feed fs) r = 0
ticks_by Tick (good o) = 1
ticks_by Tick (bad r) = 0
ticks_by (Take n) r = 0
ticks_by (Peek s) r = 0

abbrev pub handed : Outcome → List (List ℕ)
handed done = []
handed (packet fs) = fs ∷ []
handed (word w n) = []

-- the packet that was taken, if it was a take that was not refused
abbrev pub taken_by : Answer Outcome → List (List ℕ)
taken_by (good o) = handed o
taken_by (bad r) = []

-- over a run: the packets fed, the ticks, the packets taken
abbrev pub fed_in : List Exchange → List (List ℕ)
fed_in [] = []
fed_in (x ∷ run) = fed_by x.call x.answer ++ fed_in run

abbrev pub ticks_in : List Exchange → ℕ
ticks_in [] = 0
ticks_in (x ∷ run) = ticks_by x.call x.answer + ticks_in run

abbrev pub taken_in : List Exchange → List (List ℕ)
taken_in [] = []
taken_in (x ∷ run) = taken_by x.answer ++ taken_in run

-- for each packet fed, how many ticks there were since
abbrev pub ticks_since : List Exchange → List ℕ
ticks_since [] = []
ticks_since (x ∷ run) = map (λ _. ticks_in run) (fed_by x.call x.answer) ++ ticks_since run

-- how many of these numbers are k or more
abbrev pub at_least : ℕ → List ℕ → ℕ
at_least k [] = 0
at_least k (n ∷ ns) = cond (nat_le k n) (suc (at_least k ns)) (at_least k ns)

-- how many packets fed in a run, taken or not, have come to place k
abbrev pub reached_in : ℕ → List Exchange → ℕ
reached_in k run = at_least k (ticks_since run)

-- the n-th packet fed, counted from 0, is not taken: packets are taken in the order in which they are fed
pub record Waits (n : ℕ) (run : List Exchange) : Type 0 where
  pub fed : n < length (fed_in run)
  pub untaken : length (taken_in run) ≤ n

-- the calls since a start, their answers, and what the machine holds after them
module _ (shape : Shape) (one : Values → Values) where
  pub record Served {Row : Type 0} (cs : List Call) (rs : List (Answer Outcome)) (m : Contents Row) : Type 0 where
    -- each call is answered, or refused with number and place, as the book has it
    pub book : rs ≡ answers shape one cs []
    -- the n-th packet taken has the fields that the serial run gives the n-th packet fed
    pub order : (n : ℕ) → n < length (taken_in (exchanges cs rs)) → (n < length (fed_in (exchanges cs rs))) × (slice_index_or (taken_in (exchanges cs rs)) n [] ≡ leaving one shape.states (suc n) (fed_in (exchanges cs rs)))
    -- a peek tells how many packets have reached the state's stage, and the word that the serial run leaves after so many
    pub peeks : (before later : List Exchange) (s w n : ℕ) → exchanges cs rs ≡ before ++ exchange (Peek s) (good (word w n)) ∷ later → (n ≡ reached_in (shape.stage s) before) × (w ≡ slice_index (words_after one shape.states n (fed_in before)) s)
    -- a packet fed and not taken stands as many places past the entry as there were ticks since
    pub stands : (n : ℕ) → Waits n (exchanges cs rs) → (slice_index (ticks_since (exchanges cs rs)) n ≤ shape.depth) × (packet_at m (slice_index (ticks_since (exchanges cs rs)) n) ≡ Some (suc n))
    -- and every other place is empty
    pub empty : (q : ℕ) → q ≤ shape.depth → ((n : ℕ) → Waits n (exchanges cs rs) → slice_index (ticks_since (exchanges cs rs)) n ≢ q) → packet_at m q ≡ None
