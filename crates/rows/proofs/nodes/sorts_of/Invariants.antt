use Rattle.std.proofs.Common.{◌≡◌, ℕ, ◌<◌, length, get_or, None}
use Rattle.rows.specs.Sorts.{sort_of}
use Rattle.rows.proofs.nodes.sorts_of.Given as goal

abbrev pub invariant-loop-n : goal.invariant-loop-n
invariant-loop-n l = (length l.sort-items ≡ 208) × ((k : ℕ) → k < l.n → get_or l.sort-items k None ≡ sort_of l.c.lines k)
