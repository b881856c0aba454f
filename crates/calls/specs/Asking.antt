-- The calls and answers of a list as the book's. Assumes nothing.
use Rattle.std.specs.Prelude.{ℕ, List, [], length, Result, vec_items}
use Rattle.image.specs.Reading.{Answer}
use Rattle.book.specs.Calls as book
use Rattle.machine.specs.declared.fault.MachineFault.{MachineFault}
use Rattle.machine.specs.Faults.{answered}
use Rattle.machine.specs.Did.{Spared}
use Rattle.calls.specs.declared.call.Call.{Call}
use Rattle.calls.specs.declared.call.Call.TheVariants.{Feed, Tick, Take, Peek}
use Rattle.calls.specs.declared.call.Reply.{Reply}
use Rattle.calls.specs.declared.call.Reply.TheVariants.{Done, Shown}
use Rattle.calls.specs.declared.call.Asked.{Asked}

abbrev pub call_of : Call → book.Call
call_of (Feed v) = book.Call.Feed (vec_items v)
call_of Tick = book.Call.Tick
call_of (Take v) = book.Call.Take (length (vec_items v))
call_of (Peek s) = book.Call.Peek s

-- what a call comes to that is done: a packet that left is in the buffer
abbrev pub done_of : Call → book.Outcome
done_of (Feed v) = book.Outcome.done
done_of Tick = book.Outcome.done
done_of (Take v) = book.Outcome.packet (vec_items v)
done_of (Peek s) = book.Outcome.done

abbrev pub outcome_of : Call → Reply → book.Outcome
outcome_of call Done = done_of call
outcome_of call (Shown w n) = book.Outcome.word w n

abbrev pub answer_of : Call → Result Reply MachineFault → Answer book.Outcome
answer_of call r = answered (outcome_of call) r

abbrev pub call_in : Asked → book.Call
call_in x = call_of x.call

abbrev pub answer_in : Asked → Answer book.Outcome
answer_in x = answer_of x.call x.answer

abbrev pub buffer : Call → List ℕ
buffer (Feed v) = vec_items v
buffer Tick = []
buffer (Take v) = vec_items v
buffer (Peek s) = []

-- a refused call leaves its buffer as it was
abbrev pub Spares : Result Reply MachineFault → Call → Call → Type 0
Spares r before after = Spared r (buffer before) (buffer after)
