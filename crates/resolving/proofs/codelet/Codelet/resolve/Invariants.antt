use Rattle.std.proofs.Common.{◌≡◌, length, take}
use Rattle.resolving.specs.Resolving.{table}
use Rattle.resolving.proofs.codelet.Codelet.resolve.Given as goal

abbrev pub invariant-loop-n : goal.invariant-loop-n
invariant-loop-n l = (length l.sources ≡ 208) × (take l.n l.sources ≡ table l.self l.decided l.n)
