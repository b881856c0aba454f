-- What a stage's work leaves at each line. Assumes nothing.
use Rattle.std.proofs.Common.{◌≡◌, ℕ, zero, suc, ◌+◌, ◌<◌, ◌≤◌, Bool, true, false, cond, eqb, List, [], ◌∷◌, length, get_or, set, refl, ap, ◌∙◌, ⊎_elim, arith, length-set}
use Rattle.std.specs.List.{range_with_len}
use Rattle.std.proofs.lemmas.List.{get_or-set_same, get_or-set_other}
use Rattle.std.proofs.lemmas.Bool.{cases_eq}
use Rattle.placement.specs.Placement.{stage_at}
use Rattle.resolving.specs.declared.packet.Packet.{Packet as Row}
use Rattle.plans.specs.declared.plan.Plan.{Plan}
use Rattle.plans.specs.Pipeline.{made_at, filled, stage_work}

put_long : (b : Bool) (made : List ℕ) (n x : ℕ) → length (cond b (set made n x) made) ≡ length made
put_long true made n x = length-set made n x
put_long false made n x = refl

put_other : (b : Bool) (made : List ℕ) (n x i : ℕ) → (i ≡ n → ⊥) → get_or (cond b (set made n x) made) i 0 ≡ get_or made i 0
put_other true made n x i ne = get_or-set_other made n i x 0 ne
put_other false made n x i ne = refl

put_same : (b : Bool) (made : List ℕ) (n x : ℕ) → n < length made → get_or (cond b (set made n x) made) n 0 ≡ cond b x (get_or made n 0)
put_same true made n x h = get_or-set_same made n x 0 h
put_same false made n x h = refl

module _ (plus minus : ℕ → ℕ → ℕ) (plan : Plan) (k : ℕ) (row : Row) (ws : List ℕ) where
  abbrev put : ℕ → List ℕ → List ℕ
  put n made = cond (eqb (stage_at plan.placement n) k) (set made n (made_at plus minus plan row ws n)) made

  filled_long : (ns made : List ℕ) → length (filled plus minus plan k row ws ns made) ≡ length made
  filled_long [] made = refl
  filled_long (n ∷ ns) made = filled_long ns (put n made) ∙ put_long (eqb (stage_at plan.placement n) k) made n (made_at plus minus plan row ws n)

  filled_below : (m a : ℕ) (made : List ℕ) (n : ℕ) → n < a → get_or (filled plus minus plan k row ws (range_with_len a m) made) n 0 ≡ get_or made n 0
  filled_below zero a made n h = refl
  filled_below (suc m) a made n h =
      filled_below m (a + 1) (put a made) n (omega arith) ∙ put_other (eqb (stage_at plan.placement a) k) made a (made_at plus minus plan row ws a) n (λ e. omega arith)

  filled_at : (m a : ℕ) (made : List ℕ) (n : ℕ) → a ≤ n → n < a + m → n < length made → get_or (filled plus minus plan k row ws (range_with_len a m) made) n 0 ≡ cond (eqb (stage_at plan.placement n) k) (made_at plus minus plan row ws n) (get_or made n 0)
  filled_at zero a made n le lt h = absurd (omega arith)
  filled_at (suc m) a made n le lt h =
      ⊎_elim
      (λ (e : n ≡ a). rw e (filled_below m (a + 1) (put a made) a (omega arith) ∙ put_same (eqb (stage_at plan.placement a) k) made a (made_at plus minus plan row ws a) (omega arith)))
      (λ ne. let long : n < length (put a made) = omega (arith, put_long (eqb (stage_at plan.placement a) k) made a (made_at plus minus plan row ws a)) in
      let above : a + 1 ≤ n = omega arith in
      let under : n < (a + 1) + m = omega arith in
      filled_at m (a + 1) (put a made) n above under long ∙ ap (λ x. cond (eqb (stage_at plan.placement n) k) (made_at plus minus plan row ws n) x) (put_other (eqb (stage_at plan.placement a) k) made a (made_at plus minus plan row ws a) n ne))
      (cases_eq n a)

  pub work_long : length (stage_work plus minus plan k row ws).lines ≡ length row.lines
  work_long = filled_long (range_with_len 0 208) row.lines

  pub work_at : (n : ℕ) → n < 208 → length row.lines ≡ 208 → get_or (stage_work plus minus plan k row ws).lines n 0 ≡ cond (eqb (stage_at plan.placement n) k) (made_at plus minus plan row ws n) (get_or row.lines n 0)
  work_at n h long = filled_at 208 0 row.lines n (omega arith) (omega arith) (omega arith)
