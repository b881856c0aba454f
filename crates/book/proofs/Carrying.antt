-- What holds of all values that a packet may carry at a place. Assumes nothing.
use Rattle.std.proofs.Common.{ℕ, suc, ◌<◌, List}
use Rattle.meaning.specs.Serial.{Values}
use Rattle.book.specs.Pipeline.{Pipeline}
use Rattle.book.specs.Right.{Finds, Carries}

-- it holds at the entry, and each stage hands it on
pub carries_all : {Row : Type 0} (P : Pipeline Row) (v : Values) (holds : ℕ → Row → Type 0) → holds 0 (P.enter v.fields) → ((k : ℕ) (row : Row) (ws : List ℕ) → k < P.shape.depth → holds k row → Finds P v (suc k) ws → holds (suc k) (P.work (suc k) row ws)) → (k : ℕ) (row : Row) → Carries P v k row → holds k row
carries_all P v holds enters works k row Carries.entered = enters
carries_all P v holds enters works k row (Carries.worked {k = j} {row = r} ws lt c f) = works j r ws lt (carries_all P v holds enters works j r c) f
