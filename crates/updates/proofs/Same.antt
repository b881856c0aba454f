-- Two codelets of the same lines are the same. Assumes nothing.
use Rattle.std.proofs.Common.{◌≡◌, true}
use mathlib.Core.HLevel.{is_prop→PathP}
use mathlib.Core.Bool.{Bool-set}
use Rattle.resolving.specs.declared.codelet.Codelet.{Codelet}
use Rattle.resolving.specs.Reads.{lower_from}

pub same_codelets : (a b : Codelet) → a.lines ≡ b.lines → a.inner ≡ b.inner → a.read ≡ b.read → a ≡ b
same_codelets a b p q r = λ i. record { lines = p i; inner = q i; read = r i; lower = is_prop→PathP (λ j. lower_from 0 (p j) (q j) ≡ true) (λ j. Bool-set (lower_from 0 (p j) (q j)) true) a.lower b.lower i }
