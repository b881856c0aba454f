use Rattle.std.proofs.Common.{◌≡◌, true, [], drop}
use Rattle.transaction.specs.Frames.{frames_of, elses}
use Rattle.transaction.specs.WellFormed.{nested}
use Rattle.meaning.specs.Serial.{values, context, run}
use Rattle.meaning.proofs.packet.run.Given as goal

abbrev pub invariant-loop-x : goal.invariant-loop-x
invariant-loop-x g l =
    let plus = g.M.Arithmetic.plus in
    let minus = g.M.Arithmetic.minus in
    let left = drop l.x-index l.x-items in
    let frames = frames_of l.nest in
    record {
      same_end : run plus minus left (context (values l.fields l.words) frames) ≡ run plus minus l.x-items (context (values l.initial.fields l.initial.words) []);
      fitting : nested (elses frames) left ≡ true;
    }
