use Rattle.std.proofs.Common.{◌≡◌, ℕ, ◌≤◌, length, get_or, take}
use Rattle.meaning.specs.Serial.{values}
use Rattle.lines.specs.Work.{worked}
use Rattle.lines.proofs.lines.Lines.work_out.Given as goal

abbrev pub invariant-loop-n : goal.invariant-loop-n
invariant-loop-n g l =
    record {
      long : length l.made ≡ 208;
      worked : take l.n l.made ≡ worked g.M.Arithmetic.plus g.M.Arithmetic.minus (values l.fields l.words) (take l.n l.line-items);
      past : (k : ℕ) → l.n ≤ k → get_or l.made k 0 ≡ 0;
    }
