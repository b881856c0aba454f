-- What a machine that is started and called comes to. Assumes nothing.
use Rattle.std.specs.Prelude.{◌≡◌, ℕ, ◌<◌, List, map, length, Ok, Err, Result, slice_index_or}
use Rattle.transaction.specs.WellFormed.{Program}
use Rattle.image.specs.Reading.{Answer, image_says}
use Rattle.image.specs.Reading.Answer.{good, bad}
use Rattle.resolving.specs.declared.packet.Packet.{Packet as Row}
use Rattle.book.specs.Run.{one_alone}
use Rattle.book.specs.Laws.{Served}
use Rattle.plans.specs.Pipeline.{shape_of}
use Rattle.compiler.specs.Planned.{ImagePlanned}
use Rattle.machine.specs.declared.fault.StartFault.{StartFault}
use Rattle.machine.specs.declared.machine.Machine.{Machine}
use Rattle.machine.specs.Faults.{start_refusal}
use Rattle.machine.specs.Held.{contents}
use Rattle.calls.specs.declared.call.Asked.{Asked}
use Rattle.calls.specs.Asking.{call_in, answer_in, Spares}

-- what is told of the start: the number of stages, or the refusal
abbrev pub told : {A : Type 0} → Result (Machine A) StartFault → Answer ℕ
told (Ok m) = good m.plan.placement.stages.count
told (Err f) = bad (start_refusal f)

-- The calls before and after they are answered, and the machine after them: it carries out a plan of the image's
-- transaction, and the calls were served as the serial book and the serial run of that transaction have it.
pub record Service (plus minus : ℕ → ℕ → ℕ) (ran : List ℕ → ℕ → Row → ℕ) (image : List ℕ) (d p q : ℕ) (asked asked' : List Asked) {A : Type 0} (m : Machine A) : Type 0 where
  pub program : Program
  pub read : image_says image ≡ good program
  pub planned : ImagePlanned plus minus ran image d p q m.plan
  pub served : Served (shape_of m.plan) (one_alone plus minus program) (map call_in asked) (map answer_in asked') (contents m)
  -- each call still stands in its place, with the fields that were fed, and a refused call left its buffer as it was
  pub calls : map call_in asked' ≡ map call_in asked
  pub spares : (k : ℕ) (e : Asked) → k < length asked → Spares (slice_index_or asked' k e).answer (slice_index_or asked k e).call (slice_index_or asked' k e).call
