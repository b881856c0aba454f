-- The numbers of read lines are small. Assumes nothing.
use Rattle.std.proofs.Common.{◌≡◌, ℕ, zero, suc, ◌+◌, ◌≤◌, Bool, true, false, List, [], ◌∷◌, length, get_or, sym, subst, arith}
use Rattle.lines.specs.declared.lines.Lines.{Lines}
use Rattle.lines.specs.Build.{numbered}
use Rattle.codelets.specs.Codelets.{read_of}

numbered_low : (n : ℕ) (ms : List Bool) (j : ℕ) → get_or (numbered n ms) j 0 ≤ n + length ms
numbered_low n [] j = omega arith
numbered_low n (true ∷ ms) zero = omega arith
numbered_low n (true ∷ ms) (suc j) = omega (arith, numbered_low (suc n) ms j)
numbered_low n (false ∷ ms) zero = omega arith
numbered_low n (false ∷ ms) (suc j) = omega (arith, numbered_low n ms j)

pub reads_low : (r : Lines) (s : ℕ) → read_of r s ≤ 8
reads_low r s =
    subst (λ (l : List ℕ). get_or l s 0 ≤ 8) (sym r.reads_at) (let long : length r.named ≡ 8 = r.named_long in omega (arith, numbered_low 0 r.named s))
