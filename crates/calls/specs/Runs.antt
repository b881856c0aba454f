-- What a list of calls comes to. Assumes nothing.
use Rattle.std.specs.Prelude.{◌≡◌, ℕ, ◌<◌, List, map, length, slice_index_or}
use Rattle.meaning.specs.Serial.{Values}
use Rattle.image.specs.Reading.{Answer}
use Rattle.book.specs.Calls as book
use Rattle.book.specs.Book.{Packet, answers, ended}
use Rattle.book.specs.Pipeline.{Pipeline, Contents, Ran}
use Rattle.book.specs.Right.{Right}
use Rattle.book.specs.Agrees.{Agrees, Fresh}
use Rattle.book.specs.Laws.{Served}
use Rattle.calls.specs.declared.call.Asked.{Asked}
use Rattle.calls.specs.Asking.{call_in, answer_in, Spares}

module _ {Row : Type 0} (P : Pipeline Row) where
  -- these calls with these answers, as the book b has them, which agrees with the machine before them
  pub record BookedAll (one : Values → Values) (cs : List book.Call) (rs : List (Answer book.Outcome)) (b : List Packet) (m' : Contents Row) : Type 0 where
    pub answers : rs ≡ answers P.shape one cs b
    pub agrees : Agrees P one (ended P.shape one cs b) m'

  -- the calls before and after they are answered, and what the machine holds before and after
  pub record Run (asked asked' : List Asked) (m m' : Contents Row) : Type 0 where
    -- each call is answered and changes the machine as the pipeline says
    pub ran : Ran P (map call_in asked) m (map answer_in asked') m'
    -- where the pipeline is right for the serial run, what every book says that agrees with the machine before
    pub book : (one : Values → Values) (b : List Packet) → Right P one → Agrees P one b m → BookedAll one (map call_in asked) (map answer_in asked') b m'
    -- and, from a machine at its start, the laws of the run
    pub served : (one : Values → Values) → Right P one → Fresh P m → Served P.shape one (map call_in asked) (map answer_in asked') m'
    -- each call still stands in its place, and a take's buffer is as long as it was
    pub calls : map call_in asked' ≡ map call_in asked
    pub spares : (k : ℕ) (d : Asked) → k < length asked → Spares (slice_index_or asked' k d).answer (slice_index_or asked k d).call (slice_index_or asked' k d).call
