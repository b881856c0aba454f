-- The lines passed so far are claimed, and the others are as they were.
use Rattle.std.proofs.Common.{◌≡◌, ℕ, ◌<◌, ◌≤◌, cond, length, get_or, Some, None}
use Rattle.codelets.specs.Codelets.{in_codelet}
use Rattle.codelets.proofs.codelets.Codelet.claim.Given as goal

abbrev pub invariant-loop-n : goal.invariant-loop-n
invariant-loop-n l =
    (length l.owner ≡ 208)
    × ((k : ℕ) → k < l.n → get_or l.owner k None ≡ cond (in_codelet l.self.lines.now l.self.state k) (Some l.self.state) (get_or l.initial.owner k None))
    × ((k : ℕ) → l.n ≤ k → get_or l.owner k None ≡ get_or l.initial.owner k None)
