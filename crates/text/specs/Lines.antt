-- The lines of an input. Assumes nothing.
use Rattle.std.specs.Prelude.{ℕ, ◌==◌, List, [], ◌∷◌, length, if◌then◌else◌}
use Rattle.std.specs.List.{slice_split}

-- pieces without the last one, where that is empty
abbrev pub up_to_empty_end : List (List ℕ) → List (List ℕ)
up_to_empty_end [] = []
up_to_empty_end (piece ∷ []) = if length piece == 0 then [] else piece ∷ []
up_to_empty_end (piece ∷ next ∷ pieces) = piece ∷ up_to_empty_end (next ∷ pieces)

-- the pieces between line feeds, which are bytes 10; a line feed at the input's end begins no further line
abbrev pub input_lines : List ℕ → List (List ℕ)
input_lines input = up_to_empty_end (slice_split (λ b. b == 10) input)
