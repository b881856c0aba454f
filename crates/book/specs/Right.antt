-- What makes a pipeline right for the serial run. Assumes nothing.
use Rattle.std.specs.Prelude.{◌≡◌, ℕ, suc, ◌<◌, ◌≤◌, List, length, slice_index}
use Rattle.word.specs.Words.{Word}
use Rattle.meaning.specs.Serial.{Values}
use Rattle.book.specs.Book.{Shape}
use Rattle.book.specs.Pipeline.{Pipeline}

-- each is a word; past the end `slice_index` gives 0, which is one
abbrev pub AllWords : List ℕ → Type 0
AllWords xs = (i : ℕ) → Word (slice_index xs i)

-- so many words
pub record Words (n : ℕ) (xs : List ℕ) : Type 0 where
  pub size : length xs ≡ n
  pub each : AllWords xs

-- fields and words as a transaction of this shape has them
pub record Fits (shape : Shape) (v : Values) : Type 0 where
  pub fields : Words shape.width v.fields
  pub words : Words shape.states v.words

module _ {Row : Type 0} (P : Pipeline Row) where
  -- the words of stage k's states stand in ws as the serial run of the packet of v finds them
  abbrev pub Finds : Values → ℕ → List ℕ → Type 0
  Finds v k ws = (s : ℕ) → s < P.shape.states → P.shape.stage s ≡ k → slice_index ws s ≡ slice_index v.words s

  -- values that a packet may carry at place k: it entered with the fields of v, and in each stage that it passed
  -- the stage's words stood as its serial run finds them; the other words may have stood anyhow
  pub data Carries (v : Values) : ℕ → Row → Type 0 where
    entered : Carries v 0 (P.enter v.fields)
    worked : {k : ℕ} {row : Row} (ws : List ℕ) → k < P.shape.depth → Carries v k row → Finds v (suc k) ws → Carries v (suc k) (P.work (suc k) row ws)

  -- `one` is what a packet run alone leaves
  pub record Right (one : Values → Values) : Type 0 where
    -- words stay words, and lengths lengths
    pub keeps : (v : Values) → Fits P.shape v → Fits P.shape (one v)
    -- an atom that runs on its serial old word makes the serial new word
    pub runs : (s k : ℕ) (v : Values) (row : Row) → Fits P.shape v → s < P.shape.states → P.shape.stage s ≡ suc k → Carries v k row → P.run s (slice_index v.words s) row ≡ slice_index (one v).words s
    -- a state without an atom keeps its word
    pub rests : (s : ℕ) (v : Values) → Fits P.shape v → s < P.shape.states → P.shape.stage s ≡ 0 → slice_index (one v).words s ≡ slice_index v.words s
    -- at the exit a packet has the serial fields
    pub leaves : (v : Values) (row : Row) → Fits P.shape v → Carries v P.shape.depth row → P.leave row ≡ (one v).fields
    -- every atom stands in a stage
    pub within : (s : ℕ) → s < P.shape.states → P.shape.stage s ≤ P.shape.depth
