-- A plan is sound by what its parts come to. Assumes nothing.
use Rattle.std.proofs.Common.{◌≡◌, ℕ, true, List, sym, subst}
use Rattle.transaction.specs.declared.transaction.Transaction.{Transaction}
use Rattle.transaction.specs.Programs.{statements_of}
use Rattle.lines.specs.declared.lines.Lines.{Lines}
use Rattle.lines.specs.Exact.{Exactly, NamedThere, InOrder}
use Rattle.lines.specs.Unique.{IsBlankPast}
use Rattle.lines.specs.Meaning.{KeepsMeaning, EachMakes, MakesWords}
use Rattle.codelets.specs.Codelets.{is_named}
use Rattle.stages.specs.declared.limits.Limits.{Limits}
use Rattle.placement.specs.Placement.{WellPlaced}
use Rattle.resolving.specs.declared.packet.Packet.{Packet}
use Rattle.resolving.specs.Sameness.{undecided}
use Rattle.updates.specs.Inner.{update_of}
use Rattle.atoms.specs.Rightness.{Right}
use Rattle.plans.specs.declared.plan.Plan.{Plan}
use Rattle.plans.specs.Updates.{codelet_of}
use Rattle.plans.specs.Pipeline.{lines_in, setting_of}
use Rattle.plans.specs.Sound.{Sound}

-- what is known of a transaction's lines
pub record Found (t : Transaction) (r : Lines) : Type 0 where
  pub exact : Exactly (statements_of t) r
  pub there : NamedThere t r
  pub order : InOrder r
  pub meaning : KeepsMeaning t r
  pub makes : EachMakes r
  pub words : MakesWords r
  pub blank : IsBlankPast r

pub sound_from : (plus minus : ℕ → ℕ → ℕ) (ran : List ℕ → ℕ → Packet → ℕ) (limits : Limits) (plan : Plan) (t : Transaction) (r : Lines) → plan.transaction ≡ t → lines_in plan ≡ r → Found t r → WellPlaced r limits plan.placement → ((s : ℕ) → is_named r s ≡ true → Right plus minus ran (codelet_of r s) undecided (update_of r s) (setting_of plan s)) → Sound plus minus ran limits plan
sound_from plus minus ran limits plan t r e same found placed settings =
    record {
      lines = along (λ u l. Exactly (statements_of u) l) found.exact;
      there = along NamedThere found.there;
      order = along (λ u l. InOrder l) found.order;
      meaning = along KeepsMeaning found.meaning;
      makes = along (λ u l. EachMakes l) found.makes;
      words = along (λ u l. MakesWords l) found.words;
      blank = along (λ u l. IsBlankPast l) found.blank;
      placed = along (λ u l. WellPlaced l limits plan.placement) placed;
      settings = along (λ u l. (s : ℕ) → is_named l s ≡ true → Right plus minus ran (codelet_of l s) undecided (update_of l s) (setting_of plan s)) settings;
    }
  where
    along : (F : Transaction → Lines → Type 0) → F t r → F plan.transaction (lines_in plan)
    along F x = subst (λ (u : Transaction). F u (lines_in plan)) (sym e) (subst (λ (l : Lines). F t l) (sym same) x)
