-- Whether every open if runs the part that is written here, asked from the outermost on. Assumes nothing.
use Rattle.std.proofs.Common.{◌≡◌, Bool, true, ◌&&◌, List, [], ◌∷◌, reverse, sym, refl, ap, ◌∙◌, arith}
use Rattle.std.proofs.lemmas.List.{reverse-append}
use Rattle.std.specs.List.{list_all}
use Rattle.transaction.specs.declared.frame.Frame.{Frame}
use Rattle.meaning.specs.Serial.{taken, live}
use Rattle.meaning.proofs.Branches.{live_append}

swap : (b c : Bool) → (b && (c && true)) ≡ (c && b)
swap b c = grind arith

pub live_reverse : (l : List (Frame Bool)) → list_all taken l ≡ live (reverse l)
live_reverse [] = refl
live_reverse (f ∷ l) =
    sym (ap live (reverse-append (f ∷ []) l) ∙ live_append (reverse l) (f ∷ []) ∙ swap (live (reverse l)) (taken f) ∙ sym (ap (λ (b : Bool). taken f && b) (live_reverse l)))
