-- Echoes. Assumes nothing.
use Rattle.std.specs.Prelude.{◌≡◌, ℕ, ◌<◌, Bool, true, false, not, ◌&&◌, ◌||◌, map, Decides, slice_index_or}
use Rattle.std.specs.List.{range_with_len}
use Rattle.graph.specs.Rounds.{some_below, led}
use Rattle.lines.specs.declared.lines.Lines.{Lines}
use Rattle.lines.specs.Named.{any_of}
use Rattle.lines.specs.Layout.{is_line}
use Rattle.line_graph.specs.Edges.{read_by}
use Rattle.codelets.specs.Codelets.{in_codelet}
use Rattle.codelets.specs.Inner.{inner}

-- whether a line is a field's final value
abbrev pub is_final : Lines → ℕ → Bool
is_final r n = any_of (is_line n) r.finals

-- whether line m, outside state s's codelet, reads line n
abbrev pub read_outside : Lines → ℕ → ℕ → ℕ → Bool
read_outside r s n m = read_by r n m && not (in_codelet r s m)

-- whether a line outside its codelet reads line n
abbrev pub leaves : Lines → ℕ → Bool
leaves r n = some_below 8 (λ s. in_codelet r s n && some_below r.count (read_outside r s n))

-- an inner line has an echo when it is a final value, when a line outside its codelet reads it, or when an echo reads it, and only so
pub data Echo (r : Lines) : ℕ → Type 0 where
  ends : (n : ℕ) → inner r n ≡ true → is_final r n ≡ true → Echo r n
  parts : (n m s : ℕ) → inner r n ≡ true → in_codelet r s n ≡ true → m < r.count → read_by r n m ≡ true → in_codelet r s m ≡ false → Echo r n
  serves : (n m : ℕ) → inner r n ≡ true → read_by r n m ≡ true → Echo r m → Echo r n

-- computed: what the first two cases give, and the inner lines that a path leads to from there, from a line to each that it reads
abbrev pub seed : Lines → ℕ → Bool
seed r n = inner r n && (is_final r n || leaves r n)

abbrev pub back : Lines → ℕ → ℕ → Bool
back r a b = inner r a && (inner r b && read_by r b a)

abbrev pub echo : Lines → ℕ → Bool
echo r n = slice_index_or (led r.count (back r) (map (λ m. seed r m) (range_with_len 0 r.count))) n false

abbrev pub EchoesLeast : Type 0
EchoesLeast = (r : Lines) (n : ℕ) → Decides (echo r n) (Echo r n)
