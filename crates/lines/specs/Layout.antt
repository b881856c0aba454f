-- Where lines stand, and which lines they read. Assumes nothing.
use Rattle.std.specs.Prelude.{◌≡◌, ℕ, ◌<◌, ◌≤◌, Bool, true, false, List, [], ◌∷◌, length, ◌==◌, slice_index_or}
use Rattle.lines.specs.declared.line.Source.{Source}
use Rattle.lines.specs.declared.line.Source.TheVariants.{Field as Incoming, Line as Made, Constant as Fixed}
use Rattle.lines.specs.declared.line.Line.{Line}
use Rattle.lines.specs.declared.line.Line.TheVariants.{Read, Copy, Add, Sub, Less, Equal, Choose, Write}
use Rattle.lines.specs.Named.{any_of}

abbrev pub sources_of : Line → List Source
sources_of (Read s) = []
sources_of (Copy a) = a ∷ []
sources_of (Add a b) = a ∷ (b ∷ [])
sources_of (Sub a b) = a ∷ (b ∷ [])
sources_of (Less a b) = a ∷ (b ∷ [])
sources_of (Equal a b) = a ∷ (b ∷ [])
sources_of (Choose c a b) = c ∷ (a ∷ (b ∷ []))
sources_of (Write s a) = a ∷ []

-- whether a source is line m
abbrev pub is_line : ℕ → Source → Bool
is_line m (Incoming i) = false
is_line m (Made n) = n == m
is_line m (Fixed c) = false

-- whether a line reads line m
abbrev pub reads_line : ℕ → Line → Bool
reads_line m l = any_of (is_line m) (sources_of l)

-- every line reads only lower lines
abbrev pub Ordered : List Line → Type 0
Ordered ls = (n m : ℕ) → n < length ls → reads_line m (slice_index_or ls n (Read 0)) ≡ true → m < n

-- no line reads a line from line w on
abbrev pub ReadsBelow : ℕ → List Line → Type 0
ReadsBelow w ls = (n m : ℕ) → n < length ls → reads_line m (slice_index_or ls n (Read 0)) ≡ true → m < w

-- none of these is a line from line w on
abbrev pub Below : ℕ → List Source → Type 0
Below w sources = (i m : ℕ) → is_line m (slice_index_or sources i (Fixed 0)) ≡ true → m < w

-- whether a line is neither a read line nor a write line
abbrev pub is_plain : Line → Bool
is_plain (Read s) = false
is_plain (Copy a) = true
is_plain (Add a b) = true
is_plain (Sub a b) = true
is_plain (Less a b) = true
is_plain (Equal a b) = true
is_plain (Choose c a b) = true
is_plain (Write s a) = false

-- the lines from line n up to line w are such lines
abbrev pub Plain : ℕ → ℕ → List Line → Type 0
Plain n w ls = (k : ℕ) → n ≤ k → k < w → is_plain (slice_index_or ls k (Read 0)) ≡ true
