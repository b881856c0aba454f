-- An array made by a function of the index, which a call leaves as it was. Assumes nothing.
use Rattle.std.proofs.Common.{◌≡◌, ℕ, zero, suc, ◌+◌, ◌<◌, ◌≤◌, List, get_or, sym, ap, ◌∙◌, subst, ⊎_elim, arith}
use Rattle.std.specs.Array.{IsFromFnResult, IsFromFnResultFrom}
use Rattle.std.specs.Fn.{Called}
use Rattle.std.proofs.lemmas.Bool.{cases_eq}
use denote.Param.Members.{Mut}

module _ {F B : Type 0} (g : Mut F (ℕ × Unit {0}) B) (f : F) (h : ℕ → B) (n : ℕ) (calls : (i : ℕ) (y : B) (q : F) → i < n → Called g f (i, tt) y q → (q ≡ f) × (y ≡ h i)) (ys : List B) (d : B) where
  made_from : (m i k : ℕ) → i + m ≤ n → IsFromFnResultFrom g f ys i m → i ≤ k → k < i + m → get_or ys k d ≡ h k
  made_from zero i k room m a b = absurd (omega arith)
  made_from (suc m) i k room (q, y, at, call, rest) a b =
      let e = calls i y q (omega arith) call in
      ⊎_elim
      (λ (same : k ≡ i). ap (λ j. get_or ys j d) same ∙ (at.1 d ∙ (e.1 ∙ ap h (sym same))))
      (λ other. made_from m (i + 1) k (omega arith) (subst (λ p. IsFromFnResultFrom g p ys (i + 1) m) e.0 rest) (omega arith) (omega arith))
      (cases_eq k i)

  pub made_at : IsFromFnResult g f ys n → (k : ℕ) → k < n → get_or ys k d ≡ h k
  made_at m k lt = made_from n 0 k (omega arith) m.each (omega arith) (omega arith)
