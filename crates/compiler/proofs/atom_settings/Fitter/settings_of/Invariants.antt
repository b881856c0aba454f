-- The states passed so far.
use Rattle.std.proofs.Common.{◌≡◌, length}
use Rattle.compiler.specs.Settings.{SetBelow}
use Rattle.compiler.proofs.atom_settings.Fitter.settings_of.Given as goal

abbrev pub invariant-loop-s : goal.invariant-loop-s
invariant-loop-s g l =
    SetBelow g.A.Arith.Arithmetic.plus g.A.Arith.Arithmetic.minus g.A.Atom.takes g.A.Atom.ran l.codelets.lines l.s l.setting-items
    × (length l.setting-items ≡ 8)
