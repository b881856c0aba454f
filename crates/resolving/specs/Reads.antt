-- What a line reads. Assumes nothing.
use Rattle.std.specs.Prelude.{ℕ, suc, Bool, true, false, ◌&&◌, List, [], ◌∷◌, nat_lt}
use Rattle.lines.specs.declared.line.Source.{Source}
use Rattle.lines.specs.declared.line.Source.TheVariants.{Field, Line as Made, Constant}
use Rattle.lines.specs.declared.line.Line.{Line}
use Rattle.lines.specs.Layout.{sources_of}

-- a source is no line from n on
abbrev pub is_before : ℕ → Source → Bool
is_before n (Field i) = true
is_before n (Made m) = nat_lt m n
is_before n (Constant w) = true

abbrev pub are_before : ℕ → List Source → Bool
are_before n [] = true
are_before n (a ∷ rest) = is_before n a && are_before n rest

-- each marked line reads only lines before it; the first line has the number n
abbrev pub lower_from : ℕ → List Line → List Bool → Bool
lower_from n [] marks = true
lower_from n (l ∷ ls) [] = true
lower_from n (l ∷ ls) (true ∷ marks) = are_before n (sources_of l) && lower_from (suc n) ls marks
lower_from n (l ∷ ls) (false ∷ marks) = lower_from (suc n) ls marks
