-- A number that does not end. Assumes nothing.
use Rattle.std.proofs.Common.{◌≡◌, ℕ, zero, suc, ◌+◌, ◌<◌, List, [], ◌∷◌, length, refl, arith}
use Rattle.std.proofs.lemmas.Bool.{le-ltb, cond-false, and_left}
use Rattle.image.specs.Reading.{refused, groups}
use Rattle.transaction.specs.Faults.{refusal}

-- After k groups the bytes end, or n more may come and that makes five.
pub unended : (start k v : ℕ) (l : List ℕ) (n : ℕ) → (0 < n → length l ≡ 0) → n + k ≡ 5 → groups start k v l ≡ refused (refusal 3 start) start
unended start k v [] n none e = refl
unended start k v (b ∷ l) zero none e = cond-false _ _ _ (and_left _ _ (le-ltb k 5 (omega arith)))
unended start k v (b ∷ l) (suc n) none e = absurd (omega (arith, none (omega arith)))
