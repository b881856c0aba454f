-- Numbers as programs print them. Assumes nothing.
use Rattle.std.specs.Prelude.{ℕ, List, ◌++◌, codes, decimal}
use Rattle.std.specs.List.{flat_map}

-- in decimal, a space before each
abbrev pub spaced_text : List ℕ → List ℕ
spaced_text numbers = flat_map (λ number. codes " " ++ decimal number) numbers
