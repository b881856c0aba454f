-- The front of a table, gone through from its start. Assumes nothing.
use Rattle.std.proofs.Common.{◌≡◌, ℕ, ◌+◌, ◌<◌, ◌≤◌, List, [], ◌∷◌, length, get_or, take, drop, ap, ◌∙◌, arith, length-take, get_or-take}
use Rattle.std.proofs.lemmas.List.{drop_more, drop_all}

module _ {A : Type 0} (l : List A) (n i : ℕ) where
  -- the item of a turn, and what is left
  pub left_at : (d : A) → i < length l → i < n → drop i (take n l) ≡ get_or l i d ∷ drop (i + 1) (take n l)
  left_at d h k = drop_more (take n l) i d (omega (arith, length-take n l)) ∙ ap (λ (x : A). x ∷ drop (i + 1) (take n l)) (get_or-take n l i d k)
