-- A right pipeline is served as the book says. Assumes nothing.
use Rattle.std.specs.Prelude.{◌≡◌, ℕ, true, List, []}
use Rattle.std.specs.List.{AllByRecursion}
use Rattle.word.specs.Words.{Word}
use Rattle.transaction.specs.WellFormed.{Program, well_formed}
use Rattle.meaning.specs.Serial.{Values}
use Rattle.image.specs.Reading.{Answer}
use Rattle.book.specs.Run.{one_alone}
use Rattle.book.specs.Calls.{Call, Outcome}
use Rattle.book.specs.Book.{Shape, Packet, answer, turned, ended}
use Rattle.book.specs.Pipeline.{Pipeline, Contents, reply, Stepped, Ran}
use Rattle.book.specs.Right.{Fits}
use Rattle.book.specs.Agrees.{FeedsWords, Fresh, Agrees}
use Rattle.book.specs.Laws.{Served}

module _ {Row : Type 0} (P : Pipeline Row) (one : Values → Values) where
  -- one call, for every book that the machine agrees with before it
  pub record Called (c : Call) (b : List Packet) (m m' : Contents Row) : Type 0 where
    pub answer : reply P c m ≡ answer P.shape one c b
    pub agrees : Agrees P one (turned P.shape one c b) m'

  abbrev pub EachCall : Type 0
  EachCall = (c : Call) (b : List Packet) (m m' : Contents Row) → FeedsWords c → Agrees P one b m → Stepped P (reply P c m) c m m' → Called c b m m'

  -- any list of calls on a machine at its start
  pub record CalledAll (cs : List Call) (rs : List (Answer Outcome)) (m : Contents Row) : Type 0 where
    pub agrees : Agrees P one (ended P.shape one cs []) m
    pub served : Served P.shape one cs rs m

  abbrev pub EveryRun : Type 0
  EveryRun = (cs : List Call) (rs : List (Answer Outcome)) (m m' : Contents Row) → AllByRecursion FeedsWords cs → Fresh P m → Ran P cs m rs m' → CalledAll cs rs m'

-- of words it makes words
abbrev pub WordsToWords : (ℕ → ℕ → ℕ) → Type 0
WordsToWords op = (a b : ℕ) → Word a → Word b → Word (op a b)

-- a well-formed transaction's packet leaves words where it meets words, and as many of both sorts
abbrev pub KeepsWords : (ℕ → ℕ → ℕ) → (ℕ → ℕ → ℕ) → Type 0
KeepsWords plus minus = (p : Program) → well_formed p ≡ true → (shape : Shape) (v : Values) → Fits shape v → Fits shape (one_alone plus minus p v)
