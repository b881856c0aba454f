-- What is told, from the verdict. Assumes nothing.
use Rattle.std.proofs.Common.{◌≡◌, ℕ, Ok, Err, Result, ap}
use Rattle.transaction.specs.declared.refusal.Refusal.{Refusal}
use Rattle.image.specs.Reading.{good, bad}
use Rattle.worked_examples.specs.Images.{answered}

-- a refusal is no number
pub never_refused : (f : Refusal) (n : ℕ) → bad f ≡ good n → ⊥
never_refused f n e = cc

pub told_good : (r : Result ℕ Refusal) (n : ℕ) → answered r ≡ good n → r ≡ Ok n
told_good (Ok m) n e = let same : m ≡ n = cc in ap Ok same
told_good (Err f) n e = cc

pub told_bad : (r : Result ℕ Refusal) (f : Refusal) → answered r ≡ bad f → r ≡ Err f
told_bad (Ok m) f e = cc
told_bad (Err g) f e = let same : g ≡ f = cc in ap Err same
