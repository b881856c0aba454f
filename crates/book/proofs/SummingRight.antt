-- The pipeline of the worked example is right. Assumes nothing.
use Rattle.std.proofs.Common.{◌≡◌, ℕ, zero, suc, ◌+◌, ◌-◌, ◌^◌, ◌<◌, List, [], ◌∷◌, length, get_or, take, set, refl, ap, ◌∙◌, ap₂, mod-lt, arith}
use Rattle.meaning.specs.Serial.{Values, values}
use Rattle.book.specs.Right.{Fits, Finds, Carries, Right}
use Rattle.book.specs.Theorem.{WordsToWords}
use Rattle.book.specs.Example.{summing, wrap_sum, wrap_difference, summed, two_stages, summing_pipeline}
use Rattle.book.proofs.Carrying.{carries_all}
use Rattle.book.proofs.WordsKept.{keeps_words}

-- what a packet of fields a and c that meets the word w carries
abbrev carried : ℕ → ℕ → ℕ → ℕ → List ℕ
carried a c w zero = a ∷ c ∷ 0 ∷ []
carried a c w (suc zero) = a ∷ c ∷ w ∷ []
carried a c w (suc (suc k)) = a ∷ w ∷ w ∷ []

carries : (a c w k : ℕ) (row : List ℕ) → Carries summing_pipeline (values (a ∷ c ∷ []) (w ∷ [])) k row → row ≡ carried a c w k
carries a c w = carries_all summing_pipeline (values (a ∷ c ∷ []) (w ∷ [])) (λ k row. row ≡ carried a c w k) refl go
  where
    go : (k : ℕ) (row ws : List ℕ) → k < 2 → row ≡ carried a c w k → Finds summing_pipeline (values (a ∷ c ∷ []) (w ∷ [])) (suc k) ws → summing_pipeline.work (suc k) row ws ≡ carried a c w (suc k)
    go zero row ws h e f = ap₂ {C = List ℕ} (λ (r : List ℕ) (x : ℕ). set r 2 x) e (f 0 (omega arith) refl)
    go (suc zero) row ws h e f = ap {B = List ℕ} (λ (r : List ℕ). set r 1 (get_or r 2 0)) e
    go (suc (suc k)) row ws h e f = absurd (omega arith)

-- two fields and one word
by_parts : (Q : Values → Type 0) → ((a c w : ℕ) → Q (values (a ∷ c ∷ []) (w ∷ []))) → (v : Values) → Fits two_stages v → Q v
by_parts Q here v k = go v.fields v.words k.fields.size k.words.size
  where
    go : (fs ws : List ℕ) → length fs ≡ 2 → length ws ≡ 1 → Q (values fs ws)
    go [] ws e f = absurd (omega arith)
    go (a ∷ []) ws e f = absurd (omega arith)
    go (a ∷ c ∷ x ∷ fs) ws e f = absurd (omega arith)
    go (a ∷ c ∷ []) [] e f = absurd (omega arith)
    go (a ∷ c ∷ []) (w ∷ []) e f = here a c w
    go (a ∷ c ∷ []) (w ∷ x ∷ ws) e f = absurd (omega arith)

first_field : (a c w k : ℕ) → get_or (carried a c w k) 0 0 ≡ a
first_field a c w zero = refl
first_field a c w (suc zero) = refl
first_field a c w (suc (suc k)) = refl

abbrev Runs : Values → Type 0
Runs v = (s k : ℕ) (row : List ℕ) → s < 1 → Carries summing_pipeline v k row → wrap_sum (get_or v.words s 0) (get_or row 0 0) ≡ get_or (summed v).words s 0

runs : (a c w : ℕ) → Runs (values (a ∷ c ∷ []) (w ∷ []))
runs a c w zero k row h x = ap {B = ℕ} (λ (y : ℕ). wrap_sum w y) (ap {B = ℕ} (λ (r : List ℕ). get_or r 0 0) (carries a c w k row x) ∙ first_field a c w k)
runs a c w (suc s) k row h x = absurd (omega arith)

abbrev Leaves : Values → Type 0
Leaves v = (row : List ℕ) → Carries summing_pipeline v 2 row → take 2 row ≡ (summed v).fields

leaves : (a c w : ℕ) → Leaves (values (a ∷ c ∷ []) (w ∷ []))
leaves a c w row x = ap {B = List ℕ} (λ (r : List ℕ). take 2 r) (carries a c w 2 row x)

sums : WordsToWords wrap_sum
sums a b h g = mod-lt (a + b) (omega arith)

differences : WordsToWords wrap_difference
differences a b h g = mod-lt (a + (2 ^ 32 - b)) (omega arith)

pub summing_right : Right summing_pipeline summed
summing_right =
    record {
      keeps = keeps_words wrap_sum wrap_difference sums differences summing refl two_stages;
      runs = λ s k v row f h e x. by_parts Runs runs v f s k row h x;
      rests = λ s v f h e. absurd (omega arith);
      leaves = λ v row f x. by_parts Leaves leaves v f row x;
      within = λ s h. omega arith;
    }
