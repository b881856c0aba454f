-- Where nothing is decided, the decided conditions hold. Assumes nothing.
use Rattle.std.proofs.Common.{◌≡◌, ℕ, zero, suc, Bool, get_or, replicate, None, Option, sym, refl, subst}
use Rattle.lines.specs.declared.line.Source.TheVariants.{Field, Line as Made, Constant}
use Rattle.resolving.specs.Codelets.{value}
use Rattle.resolving.specs.Sameness.{undecided, Agrees, HoldsOfAll}

none_at : (n i : ℕ) → get_or (replicate {A = Option Bool} n None) i None ≡ None
none_at zero i = refl
none_at (suc n) zero = refl
none_at (suc n) (suc i) = none_at n i

open_agrees : (n i v : ℕ) → Agrees (get_or (replicate n None) i None) v
open_agrees n i v = subst (λ (o : Option Bool). Agrees o v) (sym (none_at n i)) tt

pub undecided_holds : HoldsOfAll undecided
unfolding undecided
undecided_holds p (Field i) = open_agrees 16 i (value p (Field i))
undecided_holds p (Made n) = open_agrees 208 n (value p (Made n))
undecided_holds p (Constant w) = refl
