-- Codelets: lines that reach each other, with a state's write line among them. Assumes nothing.
use Rattle.std.specs.Prelude.{◌≡◌, ℕ, ◌<◌, Bool, true, false, not, ◌&&◌, ◌≢◌, List, Some, None, Decides, Option, ◌==◌, slice_index, slice_index_or}
use Rattle.graph.specs.Paths.{Path}
use Rattle.graph.specs.Rounds.{some_below, reached}
use Rattle.lines.specs.declared.lines.Lines.{Lines}
use Rattle.line_graph.specs.Edges.{edge}

abbrev pub is_named : Lines → ℕ → Bool
is_named r s = slice_index_or r.named s false

abbrev pub read_of : Lines → ℕ → ℕ
read_of r s = slice_index r.reads s

abbrev pub write_of : Lines → ℕ → ℕ
write_of r s = slice_index r.writes s

-- line n is in state s's codelet: the named state's write line and it reach each other
pub record InCodelet (r : Lines) (s n : ℕ) : Type 0 where
  pub named : is_named r s ≡ true
  pub from : Path r.count (edge r) (write_of r s) n
  pub back : Path r.count (edge r) n (write_of r s)

-- the same computed: reached from line w, and reached from it against the edges
abbrev pub meets : Lines → ℕ → ℕ → Bool
meets r w n = slice_index_or (reached r.count (edge r) w) n false && slice_index_or (reached r.count (λ a b. edge r b a) w) n false

abbrev pub in_codelet : Lines → ℕ → ℕ → Bool
in_codelet r s n = is_named r s && meets r (write_of r s) n

abbrev pub CodeletsByPaths : Type 0
CodeletsByPaths = (r : Lines) (s n : ℕ) → Decides (in_codelet r s n) (InCodelet r s n)

-- state s shares its codelet: another named state's write line is in it
abbrev pub Shares : Lines → ℕ → Type 0
Shares r s = (t : ℕ) × (t ≢ s) × (is_named r t ≡ true) × InCodelet r s (write_of r t)

abbrev pub crowds : Lines → ℕ → ℕ → Bool
crowds r s t = not (t == s) && (is_named r t && in_codelet r s (write_of r t))

abbrev pub crowded : Lines → ℕ → Bool
crowded r s = some_below 8 (crowds r s)

abbrev pub CrowdedByPaths : Type 0
CrowdedByPaths = (r : Lines) (s : ℕ) → Decides (crowded r s) (Shares r s)

-- whether an owner is state s
abbrev pub is_owner : Option ℕ → ℕ → Bool
is_owner None s = false
is_owner (Some t) s = t == s

-- each line is marked with the state whose codelet it is in, and an outside line with none
abbrev pub Owned : Lines → List (Option ℕ) → Type 0
Owned r owner = (s n : ℕ) → is_owner (slice_index_or owner n None) s ≡ in_codelet r s n

-- no codelet has two states
abbrev pub Alone : Lines → Type 0
Alone r = (s : ℕ) → crowded r s ≡ false

-- each line's owner is the state whose codelet it is in, and no codelet has two
pub record Coded (r : Lines) (owner : List (Option ℕ)) : Type 0 where
  pub whole : (s n : ℕ) → Decides (is_owner (slice_index_or owner n None) s) (InCodelet r s n)
  pub alone : (s : ℕ) → Shares r s → ⊥

-- s is the smallest state that shares its codelet
pub record Smallest (r : Lines) (s : ℕ) : Type 0 where
  pub shares : Shares r s
  pub before : (t : ℕ) → t < s → Shares r t → ⊥

-- a named state's read line and write line are lines, joined both ways, and both are in its codelet
pub record Joined (r : Lines) (s : ℕ) : Type 0 where
  pub first : read_of r s < r.count
  pub last : write_of r s < r.count
  pub there : edge r (read_of r s) (write_of r s) ≡ true
  pub again : edge r (write_of r s) (read_of r s) ≡ true
  pub read : InCodelet r s (read_of r s)
  pub write : InCodelet r s (write_of r s)

abbrev pub StatesJoined : Type 0
StatesJoined = (r : Lines) (s : ℕ) → is_named r s ≡ true → Joined r s
