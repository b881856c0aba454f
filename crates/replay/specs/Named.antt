-- What words name. Assumes nothing.
use Rattle.std.specs.Prelude.{List, ℕ, codes}
use Rattle.replay.specs.declared.call.Call.{Call}
use Rattle.replay.specs.declared.call.Call.TheVariants.{Start, Feed, Tick, Take, Peek}

-- the name of a call
abbrev pub call_name : Call → List ℕ
call_name Start = codes "start"
call_name Feed = codes "feed"
call_name Tick = codes "tick"
call_name Take = codes "take"
call_name Peek = codes "peek"
