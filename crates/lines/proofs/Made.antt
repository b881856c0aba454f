-- An array made by a function of the index, as a list of what it gives from 0 up. Assumes nothing.
use Rattle.std.proofs.Common.{◌≡◌, ℕ, ◌<◌, List, map, sym, ap, ◌∙◌}
use Rattle.std.specs.Array.{IsFromFnResult}
use Rattle.std.specs.Fn.{Called}
use Rattle.std.proofs.lemmas.List.FromFn.{fill_by_all}
use denote.Param.Members.{Mut}
use Rattle.word.proofs.Made.{made_at}
use Rattle.lines.specs.Named.{up_from}
use Rattle.lines.proofs.Numbers.{up_from-range}

pub made_all : {F B : Type 0} (g : Mut F (ℕ × Unit {0}) B) (f : F) (h : ℕ → B) (n : ℕ) (calls : (i : ℕ) (y : B) (q : F) → i < n → Called g f (i, tt) y q → (q ≡ f) × (y ≡ h i)) (ys : List B) (d : B) → IsFromFnResult g f ys n → ys ≡ map h (up_from n 0)
made_all g f h n calls ys d m = fill_by_all h ys n d m.long (made_at g f h n calls ys d m) ∙ sym (ap (map h) (up_from-range n 0))
