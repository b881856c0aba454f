-- A stage's work, node after node. Assumes nothing.
use Rattle.std.proofs.Common.{◌≡◌, ℕ, ◌-◌, Bool, true, false, cond, eqb, List, [], ◌∷◌, length, get_or, set, filter, refl, ap, ◌∙◌, arith}
use Rattle.std.specs.List.{range_with_len}
use Rattle.resolving.specs.declared.packet.Packet.{Packet as Row}
use Rattle.plans.specs.declared.plan.Plan.{Plan}
use Rattle.plans.specs.Pipeline.{made_at, filled, stage_work}
use Rattle.schedule.specs.Nodes.{nodes_from}

module _ (plus minus : ℕ → ℕ → ℕ) (plan : Plan) (row : Row) (ws : List ℕ) where
  -- each of these nodes puts what it makes
  abbrev pub puts : List ℕ → List ℕ → List ℕ
  puts [] made = made
  puts (n ∷ ns) made = puts ns (set made n (made_at plus minus plan row ws n))

  puts_filled : (k : ℕ) (ns made : List ℕ) → puts (filter (λ n. eqb (get_or plan.placement.stages.stage_of n 0) k) ns) made ≡ filled plus minus plan k row ws ns made
  puts_filled k [] made = refl
  puts_filled k (n ∷ ns) made = go (eqb (get_or plan.placement.stages.stage_of n 0) k) (puts_filled k ns)
    where
      go : (b : Bool) → ((made : List ℕ) → puts (filter (λ n. eqb (get_or plan.placement.stages.stage_of n 0) k) ns) made ≡ filled plus minus plan k row ws ns made) → puts (cond b (n ∷ filter (λ n. eqb (get_or plan.placement.stages.stage_of n 0) k) ns) (filter (λ n. eqb (get_or plan.placement.stages.stage_of n 0) k) ns)) made ≡ filled plus minus plan k row ws ns (cond b (set made n (made_at plus minus plan row ws n)) made)
      go true h = h (set made n (made_at plus minus plan row ws n))
      go false h = h made

  -- what the nodes of a stage put is the stage's work
  pub worked : (k : ℕ) (made : List ℕ) → length plan.placement.stages.stage_of ≡ 208 → made ≡ puts (nodes_from plan.placement.stages.stage_of k 0) row.lines → ◌≡◌ {A = Row} (record { fields = row.fields; lines = made }) (stage_work plus minus plan k row ws)
  unfolding nodes_from
  worked k made long e =
      let all : length plan.placement.stages.stage_of - 0 ≡ 208 = omega arith in
      ap {B = Row} (λ (l : List ℕ). record { fields = row.fields; lines = l }) (e ∙ ap {B = List ℕ} (λ (j : ℕ). puts (filter (λ n. eqb (get_or plan.placement.stages.stage_of n 0) k) (range_with_len 0 j)) row.lines) all ∙ puts_filled k (range_with_len 0 208) row.lines)
