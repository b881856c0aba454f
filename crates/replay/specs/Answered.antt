-- How answers are told. Assumes nothing.
use Rattle.std.specs.Prelude.{ℕ, List, ◌++◌, Ok, Err, codes, decimal}
use Rattle.std.specs.declared.result.Result.{Result}
use Rattle.transaction.specs.declared.refusal.Refusal.{Refusal}
use Rattle.transaction.specs.Shown.{refusal_text}
use Rattle.machine.specs.declared.fault.MachineFault.{MachineFault}
use Rattle.machine.specs.Faults.{machine_refusal}

abbrev pub line_of : Refusal → List ℕ
line_of r = refusal_text r.number r.place ++ codes "\n"

-- of a call that tells no more than that it was done
abbrev pub done_line : Result (Unit {0}) MachineFault → List ℕ
done_line (Ok u) = codes "ok\n"
done_line (Err f) = line_of (machine_refusal f)

-- of a peek: the word, and how many packets have reached its atom
abbrev pub word_line : Result (ℕ × ℕ) MachineFault → List ℕ
word_line (Ok p) = codes "word " ++ (decimal p.0 ++ (codes " count " ++ (decimal p.1 ++ codes "\n")))
word_line (Err f) = line_of (machine_refusal f)
