-- What an iterator over the lines of an input has left. Assumes nothing.
use Rattle.std.specs.Prelude.{ℕ, List}
use Rattle.text.specs.declared.input.InputLines.{InputLines}
use Rattle.text.specs.Lines.{input_lines}

abbrev pub lines_left : InputLines → List (List ℕ)
lines_left it = input_lines it.rest.now
