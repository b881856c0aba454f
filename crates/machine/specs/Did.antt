-- What a call does to a machine. Assumes nothing.
use Rattle.std.specs.Prelude.{◌≡◌, ℕ, List, Ok, Err, Result}
use Rattle.meaning.specs.Serial.{Values}
use Rattle.image.specs.Reading.{Answer}
use Rattle.image.specs.Reading.Answer.{good, bad}
use Rattle.resolving.specs.declared.packet.Packet.{Packet as Row}
use Rattle.book.specs.Calls.{Call, Outcome}
use Rattle.book.specs.Book.{Packet, answer, turned}
use Rattle.book.specs.Pipeline.{Pipeline, reply, Stepped}
use Rattle.book.specs.Right.{Right}
use Rattle.book.specs.Agrees.{Agrees}
use Rattle.plans.specs.Pipeline.{pipeline_of}
use Rattle.machine.specs.declared.fault.MachineFault.{MachineFault}
use Rattle.machine.specs.declared.machine.Machine.{Machine}
use Rattle.machine.specs.Held.{contents}

-- one call, as every book has it that agrees with the machine before the call
pub record Booked (P : Pipeline Row) (one : Values → Values) (c : Call) (r : Answer Outcome) (b : List Packet) {A : Type 0} (m' : Machine A) : Type 0 where
  pub answer : r ≡ answer P.shape one c b
  pub agrees : Agrees P one (turned P.shape one c b) (contents m')

-- a refused call changes nothing, not even what the contents leave out
abbrev pub Kept : {A : Type 0} → Answer Outcome → Machine A → Machine A → Type 0
Kept (good o) m m' = Unit {0}
Kept (bad f) m m' = m' ≡ m

-- nor a buffer
abbrev pub Spared : {X : Type 0} → Result X MachineFault → List ℕ → List ℕ → Type 0
Spared (Ok x) out out' = Unit {0}
Spared (Err f) out out' = out' ≡ out

-- the answer r to the call c, and the machine before and after it
pub record Did (plus minus : ℕ → ℕ → ℕ) (ran : List ℕ → ℕ → Row → ℕ) (c : Call) (r : Answer Outcome) {A : Type 0} (m m' : Machine A) : Type 0 where
  -- what the plan's pipeline answers
  pub answer : r ≡ reply (pipeline_of plus minus ran m.plan) c (contents m)
  -- its step, or nothing where the call is refused
  pub step : Stepped (pipeline_of plus minus ran m.plan) r c (contents m) (contents m')
  pub kept : Kept r m m'
  pub plan : m'.plan ≡ m.plan
  pub atom : m'.atom ≡ m.atom
  -- where the pipeline is right for the serial run, what the book says
  pub book : (one : Values → Values) (b : List Packet) → Right (pipeline_of plus minus ran m.plan) one → Agrees (pipeline_of plus minus ran m.plan) one b (contents m) → Booked (pipeline_of plus minus ran m.plan) one c r b m'
