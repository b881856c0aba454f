-- What is left of the line gives what the whole line gives.
use Rattle.std.proofs.Common.{◌≡◌, [], ◌∷◌, ◌++◌, drop, vec_items}
use Rattle.text.specs.Decoding.{read_from, reading}
use Rattle.text.proofs.decode.add_items.Given as goal

abbrev pub invariant-loop-column : goal.invariant-loop-column
invariant-loop-column g l =
    read_from g.T.Notation.stepped l.begun l.column (vec_items l.items) (drop l.column l.line ++ 32 ∷ []) ≡ reading g.T.Notation.stepped (vec_items l.initial.items) l.line
