-- A table that holds nothing past its lines. Assumes nothing.
use Rattle.std.proofs.Common.{◌≡◌, ℕ, zero, suc, ◌-◌, ◌≤◌, List, ◌++◌, length, get_or, replicate, refl, ◌∙◌}
use Rattle.std.proofs.lemmas.List.{get_or-append_right}
use Rattle.lines.specs.declared.line.Line.{Line}
use Rattle.lines.specs.declared.line.Line.TheVariants.{Read}

pub all_blank : {X : Type 0} (x : X) (k n : ℕ) → get_or (replicate k x) n x ≡ x
all_blank x zero n = refl
all_blank x (suc k) zero = refl
all_blank x (suc k) (suc n) = all_blank x k n

pub blank_past : (ls : List Line) (k n : ℕ) → length ls ≤ n → get_or (ls ++ replicate k (Read 0)) n (Read 0) ≡ Read 0
blank_past ls k n h = get_or-append_right ls (replicate k (Read 0)) (length ls) n (Read 0) refl h ∙ all_blank (Read 0) k (n - length ls)
