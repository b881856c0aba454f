-- Each fault's number and place in the table of refusals. Assumes nothing.
use Rattle.std.specs.Prelude.{Ok, Err, Result}
use Rattle.transaction.specs.declared.refusal.Refusal.{Refusal}
use Rattle.transaction.specs.Faults.{refusal}
use Rattle.image.specs.Reading.{Answer}
use Rattle.image.specs.Reading.Answer.{good, bad}
use Rattle.book.specs.Calls.{Outcome}
use Rattle.compiler.specs.Faults.{compile_refusal}
use Rattle.machine.specs.declared.fault.MachineFault.{MachineFault}
use Rattle.machine.specs.declared.fault.StartFault.{StartFault}
use Rattle.machine.specs.declared.fault.MachineFault.TheVariants.{Length, EntryFull, Exhausted, ExitFull, ExitEmpty, NoState}

abbrev pub machine_refusal : MachineFault → Refusal
machine_refusal (Length n) = refusal 11 n
machine_refusal EntryFull = refusal 12 0
machine_refusal Exhausted = refusal 13 0
machine_refusal (ExitFull d) = refusal 14 d
machine_refusal (ExitEmpty d) = refusal 15 d
machine_refusal (NoState s) = refusal 16 s

-- a refusal of compiling is handed on as it is
abbrev pub start_refusal : StartFault → Refusal
start_refusal f = compile_refusal f.compile

-- a call's result as the book's answer
abbrev pub answered : {X : Type 0} → (X → Outcome) → Result X MachineFault → Answer Outcome
answered outcome (Ok x) = good (outcome x)
answered outcome (Err f) = bad (machine_refusal f)
