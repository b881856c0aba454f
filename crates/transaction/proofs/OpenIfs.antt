-- The open ifs at the front of a table. Assumes nothing.
use Rattle.std.proofs.Common.{◌≡◌, ℕ, suc, ◌+◌, ◌-◌, ◌<◌, ◌≤◌, true, false, not, ltb, List, [], ◌∷◌, reverse, length, get_or, take, set, sym, refl, ap, ◌∙◌, ap₂, arith, length-take-le}
use Rattle.std.proofs.lemmas.List.{take_more, take_more_set, reverse-append, length-reverse}
use Rattle.std.proofs.lemmas.Bool.{lt-ltb, le-ltb}
use Rattle.transaction.specs.declared.frame.Frame.{Frame}
use Rattle.transaction.specs.declared.frame.Nest.{Nest}
use Rattle.transaction.specs.Frames.{frames_of, begun, turned, outer, elses}
use Rattle.transaction.specs.WellFormed.{opened, awaits}

module _ {A : Type 0} (l : List A) (d : ℕ) where
  pushed : (x : A) → d < length l → reverse (take (d + 1) (set l d x)) ≡ x ∷ reverse (take d l)
  pushed x h = ap reverse (take_more_set l d x h) ∙ reverse-append (take d l) (x ∷ [])

  -- as many as the depth says
  pub how_many : d ≤ length l → length (reverse (take d l)) ≡ d
  how_many h = length-reverse (take d l) ∙ length-take-le d l h

  pub one_more : (z : A) → d < length l → reverse (take (d + 1) l) ≡ get_or l d z ∷ reverse (take d l)
  one_more z h = ap reverse (take_more l d z h) ∙ reverse-append (take d l) (get_or l d z ∷ [])

module _ {A : Type 0} (l : List A) (d : ℕ) (z : A) (some : 0 < d) (room : d ≤ length l) where
  -- the innermost comes first
  pub innermost : reverse (take d l) ≡ get_or l (d - 1) z ∷ reverse (take (d - 1) l)
  innermost = let e : d - 1 + 1 ≡ d = omega arith in ap (λ (n : ℕ). reverse (take n l)) (sym e) ∙ one_more l (d - 1) z (omega arith)

pub elses_long : {C : Type 0} (fs : List (Frame C)) → length (elses fs) ≡ length fs
elses_long [] = refl
elses_long (f ∷ fs) = ap suc (elses_long fs)

module _ {C : Type 0} (l : List (Frame C)) (d : ℕ) where
  deep : d ≤ length l → length (elses (reverse (take d l))) ≡ d
  deep h = elses_long (reverse (take d l)) ∙ how_many l d h

  pub may_open : d ≤ length l → d < 3 → true ≡ ltb (length (elses (reverse (take d l)))) 3
  may_open h few = sym (ap (λ (n : ℕ). ltb n 3) (deep h) ∙ lt-ltb d 3 few)

  pub too_deep : d ≤ length l → 3 ≤ d → false ≡ ltb (length (elses (reverse (take d l)))) 3
  too_deep h many = sym (ap (λ (n : ℕ). ltb n 3) (deep h) ∙ le-ltb d 3 many)

  pub opens : (c : C) → d < length l → reverse (take (d + 1) (set l d (record { on = c; second = false }))) ≡ begun c (reverse (take d l))
  opens c h = pushed l d (record { on = c; second = false }) h

  module _ (z : Frame C) (some : 0 < d) (room : d ≤ length l) where
    is_open : true ≡ opened (elses (reverse (take d l)))
    is_open = sym (ap (λ (fs : List (Frame C)). opened (elses fs)) (innermost l d z some room))

    closes : reverse (take (d - 1) l) ≡ outer (reverse (take d l))
    closes = sym (ap outer (innermost l d z some room))

    pub waits : not (get_or l (d - 1) z).second ≡ awaits (elses (reverse (take d l)))
    waits = sym (ap (λ (fs : List (Frame C)). awaits (elses fs)) (innermost l d z some room))

    pub turns : reverse (take d (set l (d - 1) (record { on = (get_or l (d - 1) z).on; second = true }))) ≡ turned (reverse (take d l))
    turns =
        let e : d - 1 + 1 ≡ d = omega arith in
        let y : Frame C = record { on = (get_or l (d - 1) z).on; second = true } in
        ap (λ (n : ℕ). reverse (take n (set l (d - 1) y))) (sym e) ∙ pushed l (d - 1) y (omega arith) ∙ sym (ap turned (innermost l d z some room))

pub closed_one : {C : Type 0} (l : List (Frame C)) (d : ℕ) → 0 < d → d ≤ length l → (true ≡ opened (elses (reverse (take d l)))) × (reverse (take (d - 1) l) ≡ outer (reverse (take d l)))
closed_one [] d some room = absurd (omega arith)
closed_one (z ∷ l) d some room = (is_open (z ∷ l) d z some room, closes (z ∷ l) d z some room)

-- what a table holds whose parts are known
pub held_by : {C : Type 0} (n : Nest C) (d : ℕ) (l : List (Frame C)) → n.depth ≡ d → n.frames ≡ l → frames_of n ≡ reverse (take d l)
held_by n d l e f = ap₂ (λ (k : ℕ) (m : List (Frame _)). reverse (take k m)) e f
