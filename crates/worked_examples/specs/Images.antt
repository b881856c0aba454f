-- The images of the examples, and the tables of their lines. Assumes nothing.
use Rattle.std.specs.Prelude.{ℕ, List, [], ◌∷◌, Ok, Err, Result}
use Rattle.transaction.specs.declared.refusal.Refusal.{Refusal}
use Rattle.transaction.specs.WellFormed.{Program}
use Rattle.image.specs.Reading.{Answer, good, bad, image_says}
use Rattle.lines.specs.declared.lines.Lines.{Lines}
use Rattle.lines.specs.Unique.{IsTableOf}

-- every tenth packet is marked in field 0: f1 := s0 = 9; if f1; f0 := 1; s0 := 0; else; f0 := 0; s0 := s0 + 1; end
abbrev pub sampling_image : List ℕ
sampling_image = 1 ∷ 2 ∷ 1 ∷ 8 ∷ 4 ∷ 1 ∷ 16 ∷ 24 ∷ 9 ∷ 6 ∷ 1 ∷ 0 ∷ 0 ∷ 24 ∷ 1 ∷ 0 ∷ 16 ∷ 24 ∷ 0 ∷ 7 ∷ 0 ∷ 0 ∷ 24 ∷ 0 ∷ 1 ∷ 16 ∷ 16 ∷ 24 ∷ 1 ∷ 8 ∷ []

-- f0 := s0; s0 := s1; s1 := f0
abbrev pub crossed_image : List ℕ
crossed_image = 1 ∷ 1 ∷ 2 ∷ 3 ∷ 0 ∷ 0 ∷ 16 ∷ 0 ∷ 16 ∷ 17 ∷ 0 ∷ 17 ∷ 0 ∷ []

-- s0 := s0 + 1; s1 := s1 + s0
abbrev pub chained_image : List ℕ
chained_image = 1 ∷ 1 ∷ 2 ∷ 2 ∷ 1 ∷ 16 ∷ 16 ∷ 24 ∷ 1 ∷ 1 ∷ 17 ∷ 17 ∷ 16 ∷ []

-- s0 := s0 - 1
abbrev pub countdown_image : List ℕ
countdown_image = 1 ∷ 1 ∷ 1 ∷ 1 ∷ 2 ∷ 16 ∷ 16 ∷ 24 ∷ 1 ∷ []

-- nothing
abbrev pub empty_image : List ℕ
empty_image = 1 ∷ 1 ∷ 0 ∷ 0 ∷ []

-- a table that holds the lines of what was read
abbrev pub HoldsLines : Answer Program → Lines → Type 0
HoldsLines (good t) r = IsTableOf t.statements r
HoldsLines (bad f) r = ⊥

-- a table that holds the lines of an image
abbrev pub LinesOf : List ℕ → Lines → Type 0
LinesOf image r = HoldsLines (image_says image) r

-- what is told of a compiled image, as the verdict has it
abbrev pub answered : Result ℕ Refusal → Answer ℕ
answered (Ok n) = good n
answered (Err f) = bad f
