-- A pipeline: what a machine holds, what each call does to it, and what it answers. Assumes nothing.
use Rattle.std.specs.Prelude.{◌≡◌, ℕ, suc, ◌<◌, cond, List, [], ◌∷◌, length, is_some, Some, None, Option, ◌≢◌, slice_index, slice_index_or, slice_set}
use Rattle.std.specs.Option.{unwrap_or}
use Rattle.image.specs.Reading.{Answer}
use Rattle.image.specs.Reading.Answer.{good, bad}
use Rattle.book.specs.Calls.{Call, Outcome, feeding, ticking, taking, peeking}
use Rattle.book.specs.Calls.Call.{Feed, Tick, Take, Peek}
use Rattle.book.specs.Book.{Shape}

-- a plan as a machine carries it out; a row holds the values that a packet carries, in any form
pub record Pipeline (Row : Type 0) : Type 0 where
  pub shape : Shape
  -- what is told of a place that has no row
  pub blank : Row
  -- the values that a packet of these fields carries at the entry
  pub enter : List ℕ → Row
  -- what stage k makes of the values that a packet carries to it, and of the words as they stand
  pub work : ℕ → Row → List ℕ → Row
  -- the run of a state's setting: which state, its old word, the values that the packet carries
  pub run : ℕ → ℕ → Row → ℕ
  -- the fields of a packet that carries these values at the exit
  pub leave : Row → List ℕ

-- what a machine holds: by place the number of the packet there, if any, the values that it carries,
-- and how many packets have reached the place; by state its word
pub record Contents (Row : Type 0) : Type 0 where
  pub places : List (Option ℕ)
  pub carried : List Row
  pub counts : List ℕ
  pub words : List ℕ

abbrev pub packet_at : {Row : Type 0} → Contents Row → ℕ → Option ℕ
packet_at m q = slice_index_or m.places q None

abbrev pub values_at : {Row : Type 0} → Pipeline Row → Contents Row → ℕ → Row
values_at P m q = slice_index_or m.carried q P.blank

abbrev pub count_at : {Row : Type 0} → Contents Row → ℕ → ℕ
count_at m q = slice_index m.counts q

abbrev pub word_of : {Row : Type 0} → Contents Row → ℕ → ℕ
word_of m s = slice_index m.words s

pub record SameSizes {Row : Type 0} (m m' : Contents Row) : Type 0 where
  pub places : length m'.places ≡ length m.places
  pub carried : length m'.carried ≡ length m.carried
  pub counts : length m'.counts ≡ length m.counts
  pub words : length m'.words ≡ length m.words

module _ {Row : Type 0} (P : Pipeline Row) where
  -- a tick, on the values that the packets carried and the words as they stood
  pub record Ticked (m m' : Contents Row) : Type 0 where
    -- every packet one place on
    pub entry : packet_at m' 0 ≡ None
    pub moves : (q : ℕ) → q < P.shape.depth → packet_at m' (suc q) ≡ packet_at m q
    -- stage q + 1 works on the packet that moves there, if one does
    pub works : (q : ℕ) → q < P.shape.depth → values_at P m' (suc q) ≡ cond (is_some (packet_at m q)) (P.work (suc q) (values_at P m q) m.words) (values_at P m (suc q))
    -- and its atoms run
    pub runs : (s q : ℕ) → s < P.shape.states → q < P.shape.depth → P.shape.stage s ≡ suc q → word_of m' s ≡ cond (is_some (packet_at m q)) (P.run s (word_of m s) (values_at P m q)) (word_of m s)
    -- packets pass a place in the order of their numbers, so the number of the last is their count
    pub counts : (q : ℕ) → q < P.shape.depth → count_at m' (suc q) ≡ unwrap_or (packet_at m q) (count_at m (suc q))
    -- what stays: words without an atom in a stage, the entry's count and values, and what lies past the exit
    pub rests : (s : ℕ) → (s < P.shape.states → (q : ℕ) → q < P.shape.depth → P.shape.stage s ≢ suc q) → word_of m' s ≡ word_of m s
    pub fed : count_at m' 0 ≡ count_at m 0
    pub first : values_at P m' 0 ≡ values_at P m 0
    pub past : (q : ℕ) → P.shape.depth < q → (packet_at m' q ≡ packet_at m q) × (values_at P m' q ≡ values_at P m q) × (count_at m' q ≡ count_at m q)
    pub sizes : SameSizes m m'

  -- a feed: the next packet at the entry
  pub record FedIn (fs : List ℕ) (m m' : Contents Row) : Type 0 where
    pub places : m'.places ≡ slice_set m.places 0 (Some (suc (count_at m 0)))
    pub carried : m'.carried ≡ slice_set m.carried 0 (P.enter fs)
    pub counts : m'.counts ≡ slice_set m.counts 0 (suc (count_at m 0))
    pub words : m'.words ≡ m.words

  -- a take: the exit empty
  pub record TakenOut (m m' : Contents Row) : Type 0 where
    pub places : m'.places ≡ slice_set m.places P.shape.depth None
    pub carried : m'.carried ≡ m.carried
    pub counts : m'.counts ≡ m.counts
    pub words : m'.words ≡ m.words

  abbrev pub Step : Call → Contents Row → Contents Row → Type 0
  Step (Feed fs) m m' = FedIn fs m m'
  Step Tick m m' = Ticked m m'
  Step (Take n) m m' = TakenOut m m'
  Step (Peek s) m m' = m' ≡ m

  -- a refused call changes nothing
  abbrev pub Stepped : Answer Outcome → Call → Contents Row → Contents Row → Type 0
  Stepped (good o) c m m' = Step c m m'
  Stepped (bad r) c m m' = m' ≡ m

  -- what the machine itself answers, from what it holds
  abbrev pub reply : Call → Contents Row → Answer Outcome
  reply (Feed fs) m = feeding P.shape.width (length fs) (count_at m 0) (is_some (packet_at m 0))
  reply Tick m = ticking P.shape.depth (is_some (packet_at m P.shape.depth))
  reply (Take n) m = taking P.shape.width n P.shape.depth (is_some (packet_at m P.shape.depth)) (P.leave (values_at P m P.shape.depth))
  reply (Peek s) m = peeking P.shape.states s (word_of m s) (count_at m (P.shape.stage s))

  -- one call after another on one machine: their answers, and what it holds after them
  pub data Ran : List Call → Contents Row → List (Answer Outcome) → Contents Row → Type 0 where
    none : {m : Contents Row} → Ran [] m [] m
    next : {c : Call} {cs : List Call} {m m' m'' : Contents Row} {rs : List (Answer Outcome)} → Stepped (reply c m) c m m' → Ran cs m' rs m'' → Ran (c ∷ cs) m (reply c m ∷ rs) m''
