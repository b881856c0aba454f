-- When a machine agrees with a book. Assumes nothing.
use Rattle.std.specs.Prelude.{◌≡◌, ℕ, suc, ◌<◌, ◌≤◌, List, [], ◌∷◌, length, None, slice_index}
use Rattle.std.specs.List.{AllByRecursion}
use Rattle.meaning.specs.Serial.{Values, values}
use Rattle.book.specs.Run.{zeroed, words_after}
use Rattle.book.specs.Calls.{Call}
use Rattle.book.specs.Calls.Call.{Feed, Tick, Take, Peek}
use Rattle.book.specs.Book.{Packet, fields_of, fed, standing, reached}
use Rattle.book.specs.Book.Packet.{inside, taken}
use Rattle.book.specs.Pipeline.{Pipeline, Contents, packet_at, values_at, count_at, word_of}
use Rattle.book.specs.Right.{AllWords, Words, Carries}

-- a call that feeds, feeds words
abbrev pub FeedsWords : Call → Type 0
FeedsWords (Feed fs) = AllWords fs
FeedsWords Tick = Unit {0}
FeedsWords (Take n) = Unit {0}
FeedsWords (Peek s) = Unit {0}

-- the packets stand in line below place u: first come those that are taken, at the exit d,
-- and then each stands behind the one before it
abbrev pub Lined : ℕ → ℕ → List Packet → Type 0
Lined d u [] = Unit {0}
Lined d u (inside fs q ∷ b) = (q < u) × Lined d q b
Lined d u (taken fs q ∷ b) = (q ≡ d) × (u ≡ suc d) × Lined d u b

-- there is room for every place
pub record Room {Row : Type 0} (P : Pipeline Row) (m : Contents Row) : Type 0 where
  pub places : P.shape.depth < length m.places
  pub carried : P.shape.depth < length m.carried
  pub counts : P.shape.depth < length m.counts

-- as it is at the start: empty places, no packet counted, zeroed words
pub record Fresh {Row : Type 0} (P : Pipeline Row) (m : Contents Row) : Type 0 where
  pub room : Room P m
  pub places : (q : ℕ) → q ≤ P.shape.depth → packet_at m q ≡ None
  pub counts : (q : ℕ) → q ≤ P.shape.depth → count_at m q ≡ 0
  pub words : (s : ℕ) → s < P.shape.states → word_of m s ≡ 0

module _ {Row : Type 0} (P : Pipeline Row) (one : Values → Values) where
  -- each packet that is not taken carries what its serial run, from the words that those before it leave, lets it carry at its place
  abbrev pub Carried : Contents Row → List ℕ → List Packet → Type 0
  Carried m ws [] = Unit {0}
  Carried m ws (inside fs q ∷ b) = Carries P (values fs ws) q (values_at P m q) × Carried m (one (values fs ws)).words b
  Carried m ws (taken fs q ∷ b) = Carried m (one (values fs ws)).words b

  pub record Agrees (b : List Packet) (m : Contents Row) : Type 0 where
    pub room : Room P m
    pub lined : Lined P.shape.depth (suc P.shape.depth) b
    -- each packet has its fields, and they are words
    pub fields : AllByRecursion (λ p. Words P.shape.width (fields_of p)) b
    -- the places hold the packets that the book has there
    pub places : (q : ℕ) → q ≤ P.shape.depth → packet_at m q ≡ standing q b
    -- the counts are the packets that have reached each place
    pub counts : (k : ℕ) → k ≤ P.shape.depth → count_at m k ≡ reached k b
    pub carried : Carried m (zeroed P.shape.states) b
    -- each word is the serial run's after the packets that have reached its stage
    pub words : (s : ℕ) → s < P.shape.states → word_of m s ≡ slice_index (words_after one P.shape.states (reached (P.shape.stage s) b) (fed b)) s
