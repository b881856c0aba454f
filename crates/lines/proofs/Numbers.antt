-- Numbers one after another. Assumes nothing.
use Rattle.std.proofs.Common.{◌≡◌, ℕ, zero, suc, ◌+◌, ◌<◌, List, ◌∷◌, length, get_or, sym, refl, ap, ◌∙◌, add-one}
use Rattle.std.proofs.lemmas.List.FromFn.{length-range_with_len, get_or-range_with_len}
use Rattle.std.specs.List.{range_with_len}
use Rattle.lines.specs.Named.{up_from}

-- std's word for the same
pub up_from-range : (n i : ℕ) → up_from n i ≡ range_with_len i n
up_from-range zero i = refl
up_from-range (suc n) i = ap (λ (l : List ℕ). i ∷ l) (up_from-range n (suc i) ∙ ap (λ (k : ℕ). range_with_len k n) (sym (add-one i)))

pub up_at : (n i j d : ℕ) → j < n → get_or (up_from n i) j d ≡ i + j
up_at n i j d h = ap (λ (l : List ℕ). get_or l j d) (up_from-range n i) ∙ get_or-range_with_len i n j d h

pub up_long : (n i : ℕ) → length (up_from n i) ≡ n
up_long n i = ap length (up_from-range n i) ∙ length-range_with_len i n
