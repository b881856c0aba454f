-- The states one after another.
use Rattle.std.proofs.Common.{◌≡◌, ℕ, true, false, cond, length, get_or, Some, None, sym, refl, ap, ◌∙◌, ap₂}
use Rattle.lines.specs.declared.lines.Lines.{Lines}
use Rattle.codelets.specs.Codelets.{in_codelet, crowded}
use Rattle.codelets.proofs.Turns.{get_or_all}
use Rattle.codelets.proofs.Owners.{below_start, below_unnamed, below_named, below_owned, below_alone, coded, smallest}
use Rattle.codelets.proofs.codelets.codelets_of.Goals as goal
use Rattle.codelets.proofs.codelets.codelets_of.Goals.{then-named+else-is_shared, else-named}

pub loop-state-init : goal.loop-state-init
loop-state-init c = below_start _ _ refl (λ n. get_or_all 208 n None)

pub loop-state-preserved : goal.loop-state-preserved
loop-state-preserved c =
    elim c.if-named.branch [
      | then-named+else-is_shared w ↦
          let of = w.of-codelet.ensures in
          let alone : crowded c.args.lines.now c.loop-state.state ≡ false = sym (ap₂ crowded of.lines of.state) ∙ (sym w.is_shared.ensures ∙ w.if-is_shared.false) in
          let one = λ (n : ℕ) (r : Lines) (s : ℕ). cond (in_codelet r s n) (Some s) (get_or c.loop-state.owner n None) in
          below_named _ _ alone _ _ (ap length w.owner-is ∙ w.claim.array_long) c.loop-state.invariant (λ n h. ap (λ l. get_or l n None) w.owner-is ∙ (w.claim.ensures n h ∙ ap₂ (one n) of.lines of.state))
      | else-named w ↦ below_unnamed _ _ _ _ w.owner-is w.if-named.false c.loop-state.invariant
    ]

pub invariant_of-result : goal.invariant_of-result
invariant_of-result c = record { owned = below_owned _ _ _ c.loop-state-test.false c.loop-state.invariant; alone = below_alone _ _ _ c.loop-state-test.false c.loop-state.invariant }

pub returns : goal.returns
returns c =
    (refl, coded _ _ (below_owned _ _ _ c.loop-state-test.false c.loop-state.invariant) (below_alone _ _ _ c.loop-state-test.false c.loop-state.invariant))

pub returns-then-is_shared : goal.returns-then-is_shared
returns-then-is_shared c =
    let of = c.of-codelet.ensures in
    let shared : crowded c.args.lines.now c.loop-state.state ≡ true = sym (ap₂ crowded of.lines of.state) ∙ (sym c.is_shared.ensures ∙ c.if-is_shared.true) in
    smallest _ _ _ c.loop-state.invariant shared
