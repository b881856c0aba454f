-- From a call's step to the book. Assumes nothing.
use Rattle.std.proofs.Common.{◌≡◌, ℕ, List, Err, Result, sym, refl, ◌∙◌, subst}
use Rattle.meaning.specs.Serial.{Values}
use Rattle.image.specs.Reading.{Answer}
use Rattle.image.specs.Reading.Answer.{bad}
use Rattle.resolving.specs.declared.packet.Packet.{Packet as Row}
use Rattle.book.specs.Calls.{Call, Outcome}
use Rattle.book.specs.Book.{Packet}
use Rattle.book.specs.Pipeline.{Pipeline, Contents, reply, Stepped}
use Rattle.book.specs.Right.{Right}
use Rattle.book.specs.Agrees.{Agrees, FeedsWords}
use Rattle.book.proofs.Runs.{each_call}
use Rattle.plans.specs.Pipeline.{pipeline_of}
use Rattle.machine.specs.declared.machine.Machine.{Machine}
use Rattle.machine.specs.declared.fault.MachineFault.{MachineFault}
use Rattle.machine.specs.Faults.{machine_refusal, answered}
use Rattle.machine.specs.Held.{contents}
use Rattle.machine.specs.Did.{Booked, Kept, Did}

module _ (P : Pipeline Row) (one : Values → Values) (R : Right P one) {A : Type 0} where
  pub booked : (c : Call) (r : Answer Outcome) (b : List Packet) (m : Contents Row) (m' : Machine A) → FeedsWords c → r ≡ reply P c m → Stepped P r c m (contents m') → Agrees P one b m → Booked P one c r b m'
  booked c r b m m' w e t a =
      let x = each_call P one R c b m (contents m') w a (subst (λ (q : Answer Outcome). Stepped P q c m (contents m')) e t) in
      record { answer = e ∙ x.answer; agrees = x.agrees }

module _ (plus minus : ℕ → ℕ → ℕ) (ran : List ℕ → ℕ → Row → ℕ) {A : Type 0} where
  pub did : (c : Call) (r : Answer Outcome) (m m' : Machine A) → FeedsWords c → r ≡ reply (pipeline_of plus minus ran m.plan) c (contents m) → Stepped (pipeline_of plus minus ran m.plan) r c (contents m) (contents m') → Kept r m m' → m'.plan ≡ m.plan → m'.atom ≡ m.atom → Did plus minus ran c r m m'
  did c r m m' w e t k p a =
      record { answer = e; step = t; kept = k; plan = p; atom = a; book = λ one b R h. booked (pipeline_of plus minus ran m.plan) one R c r b (contents m) m' w e t h }

  -- a refusal
  pub did_nothing : {X : Type 0} (c : Call) (o : X → Outcome) (r : Result X MachineFault) (f : MachineFault) (m : Machine A) → FeedsWords c → r ≡ Err f → bad (machine_refusal f) ≡ reply (pipeline_of plus minus ran m.plan) c (contents m) → Did plus minus ran c (answered o r) m m
  did_nothing {X} c o r f m w e t =
      subst (λ (q : Result X MachineFault). Did plus minus ran c (answered o q) m m) (sym e) (did c (bad (machine_refusal f)) m m w t refl refl refl refl)
