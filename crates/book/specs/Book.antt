-- The serial book: each packet fed, its place and whether it is taken, and what it answers to each call. Assumes nothing.
use Rattle.std.specs.Prelude.{ℕ, suc, cond, List, [], ◌∷◌, ◌++◌, map, length, is_some, Some, None, Option, ◌==◌, nat_le, slice_index}
use Rattle.std.specs.Option.{unwrap_or}
use Rattle.meaning.specs.Serial.{Values}
use Rattle.image.specs.Reading.{Answer}
use Rattle.image.specs.Reading.Answer.{good, bad}
use Rattle.book.specs.Run.{words_after, leaving}
use Rattle.book.specs.Calls.{Call, Outcome, feeding, ticking, taking, peeking}
use Rattle.book.specs.Calls.Call.{Feed, Tick, Take, Peek}

-- what the book has to know of a plan: its stages, a packet's fields, the states,
-- and for each state the stage of its atom, 0 where it has none
pub record Shape : Type 0 where
  pub depth : ℕ
  pub width : ℕ
  pub states : ℕ
  pub stage : ℕ → ℕ

-- a packet's fields as they were fed, and its place; one that is taken keeps the exit's
pub data Packet : Type 0 where
  inside : List ℕ → ℕ → Packet
  taken : List ℕ → ℕ → Packet

abbrev pub fields_of : Packet → List ℕ
fields_of (inside fs q) = fs
fields_of (taken fs q) = fs

abbrev pub place_of : Packet → ℕ
place_of (inside fs q) = q
place_of (taken fs q) = q

-- the packets of a book as the serial run gets them
abbrev pub fed : List Packet → List (List ℕ)
fed b = map fields_of b

-- the number of the untaken packet at place q, where the first of the list has number n
abbrev pub standing_from : ℕ → ℕ → List Packet → Option ℕ
standing_from n q [] = None
standing_from n q (inside fs r ∷ b) = cond (r == q) (Some n) (standing_from (suc n) q b)
standing_from n q (taken fs r ∷ b) = standing_from (suc n) q b

-- packets are numbered from 1, in the order in which they were fed
abbrev pub standing : ℕ → List Packet → Option ℕ
standing q b = standing_from 1 q b

-- how many packets are at place k or more
abbrev pub reached : ℕ → List Packet → ℕ
reached k [] = 0
reached k (p ∷ b) = cond (nat_le k (place_of p)) (suc (reached k b)) (reached k b)

-- a tick moves a packet that is not taken
abbrev pub moved : Packet → Packet
moved (inside fs q) = inside fs (suc q)
moved (taken fs q) = taken fs q

-- a take marks the one at place d
abbrev pub marked : ℕ → Packet → Packet
marked d (inside fs q) = cond (q == d) (taken fs q) (inside fs q)
marked d (taken fs q) = taken fs q

module _ (shape : Shape) (one : Values → Values) where
  abbrev pub answer : Call → List Packet → Answer Outcome
  answer (Feed fs) b = feeding shape.width (length fs) (length b) (is_some (standing 0 b))
  answer Tick b = ticking shape.depth (is_some (standing shape.depth b))
  answer (Take n) b = taking shape.width n shape.depth (is_some (standing shape.depth b)) (leaving one shape.states (unwrap_or (standing shape.depth b) 0) (fed b))
  answer (Peek s) b = peeking shape.states s (slice_index (words_after one shape.states (reached (shape.stage s) b) (fed b)) s) (reached (shape.stage s) b)

  abbrev pub changed : Call → List Packet → List Packet
  changed (Feed fs) b = b ++ inside fs 0 ∷ []
  changed Tick b = map moved b
  changed (Take n) b = map (marked shape.depth) b
  changed (Peek s) b = b

  -- a refused call changes nothing
  abbrev pub after : Answer Outcome → Call → List Packet → List Packet
  after (good o) c b = changed c b
  after (bad r) c b = b

  -- the book after a call
  abbrev pub turned : Call → List Packet → List Packet
  turned c b = after (answer c b) c b

  -- the answers to one call after another, and the book after them
  abbrev pub answers : List Call → List Packet → List (Answer Outcome)
  answers [] b = []
  answers (c ∷ cs) b = answer c b ∷ answers cs (turned c b)

  abbrev pub ended : List Call → List Packet → List Packet
  ended [] b = b
  ended (c ∷ cs) b = ended cs (turned c b)
