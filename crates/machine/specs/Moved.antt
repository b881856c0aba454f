-- What moving a packet on through a stage does. Assumes nothing.
use Rattle.std.specs.Prelude.{◌≡◌, ℕ, ◌<◌, ◌≤◌, cond, List, is_some, ◌==◌, ◌≢◌, slice_index, slice_set}
use Rattle.std.specs.Option.{unwrap_or}
use Rattle.book.specs.Pipeline.{Pipeline, Contents, packet_at, values_at, count_at, word_of, SameSizes}
use Rattle.machine.specs.declared.machine.Machine.{Machine}

-- the plan and the atom stay
pub record SameCircuit {A : Type 0} (m m' : Machine A) : Type 0 where
  pub plan : m'.plan ≡ m.plan
  pub atom : m'.atom ≡ m.atom

-- `stood` are the words as they stood before the tick
module _ {Row : Type 0} (P : Pipeline Row) (stood : List ℕ) where
  -- stage k works on the packet n at place q, which reaches place k, and its atoms run
  pub record Passed (q k n : ℕ) (m m' : Contents Row) : Type 0 where
    pub places : m'.places ≡ m.places
    pub carried : m'.carried ≡ slice_set m.carried k (P.work k (values_at P m q) stood)
    pub counts : m'.counts ≡ slice_set m.counts k n
    pub runs : (s : ℕ) → s < P.shape.states → word_of m' s ≡ cond (P.shape.stage s == k) (P.run s (slice_index stood s) (values_at P m q)) (word_of m s)
    pub rests : (s : ℕ) → P.shape.states ≤ s → word_of m' s ≡ word_of m s

  -- whatever stands at place q moves on to place k
  pub record Moved (q k : ℕ) (m m' : Contents Row) : Type 0 where
    pub places : m'.places ≡ slice_set m.places k (packet_at m q)
    pub works : values_at P m' k ≡ cond (is_some (packet_at m q)) (P.work k (values_at P m q) stood) (values_at P m k)
    pub carried : (r : ℕ) → (r ≢ k) → values_at P m' r ≡ values_at P m r
    pub counts : count_at m' k ≡ unwrap_or (packet_at m q) (count_at m k)
    pub others : (r : ℕ) → (r ≢ k) → count_at m' r ≡ count_at m r
    pub runs : (s : ℕ) → s < P.shape.states → P.shape.stage s ≡ k → word_of m' s ≡ cond (is_some (packet_at m q)) (P.run s (slice_index stood s) (values_at P m q)) (word_of m s)
    pub rests : (s : ℕ) → (s < P.shape.states → P.shape.stage s ≢ k) → word_of m' s ≡ word_of m s
    pub sizes : SameSizes m m'
