-- What an update's fork says of the class. Assumes nothing.
use Rattle.std.proofs.Common.{◌≡◌, Bool, true, false, cond, ◌&&◌, ◌||◌, Some, None, Option, sym, refl, ap, ◌∙◌, subst}
use Rattle.std.specs.Prelude.{is_some}
use Rattle.lines.specs.declared.line.Source.{Source}
use Rattle.lines.specs.declared.line.Line.{Line}
use Rattle.lines.specs.declared.line.Line.TheVariants.{Read, Copy, Add, Sub, Less, Equal, Choose, Write}
use Rattle.resolving.specs.declared.codelet.Codelet.{Codelet}
use Rattle.resolving.specs.declared.decided.Decided.{Decided}
use Rattle.resolving.specs.declared.leaf.Predicate.{Predicate}
use Rattle.resolving.specs.declared.leaf.Predicate.TheVariants.{True, Less as IsLess, Equal as IsEqual}
use Rattle.resolving.specs.declared.fork.Fork.{Fork}
use Rattle.resolving.specs.Classes.{is_comparison, is_predicate, comparison_in, predicate_at, fork_on, fork_in, fork_of}
use Rattle.resolving.specs.Codelets.{inner_line}
use Rattle.resolving.specs.Leaves.{is_leaf, leaf_of}
use Rattle.resolving.specs.Resolving.{table, resolved_to}
use Rattle.resolving.specs.Sameness.{decide}
use Rattle.atoms.proofs.Classes.{some_cond}
use Rattle.atoms.proofs.Values.{WhereSome, at_some}
use Rattle.choice.specs.Choice.{is_choice, choice_takes, arms_taken, if_taken, taken_fork}

module _ (cod : Codelet) (d : Decided) where
  line_predicate : (o : Option Line) → is_some (comparison_in cod (table cod d 208) o) ≡ is_comparison cod d o
  line_predicate None = refl
  line_predicate (Some (Read s)) = refl
  line_predicate (Some (Copy a)) = refl
  line_predicate (Some (Add a b)) = refl
  line_predicate (Some (Sub a b)) = refl
  line_predicate (Some (Less a b)) = some_cond cod d (is_leaf cod (resolved_to cod d a) && is_leaf cod (resolved_to cod d b)) (IsLess (leaf_of cod (resolved_to cod d a)) (leaf_of cod (resolved_to cod d b)))
  line_predicate (Some (Equal a b)) = some_cond cod d (is_leaf cod (resolved_to cod d a) && is_leaf cod (resolved_to cod d b)) (IsEqual (leaf_of cod (resolved_to cod d a)) (leaf_of cod (resolved_to cod d b)))
  line_predicate (Some (Choose c a b)) = refl
  line_predicate (Some (Write s a)) = refl

  some_predicate : (c : Source) → is_some (predicate_at cod (table cod d 208) c) ≡ is_predicate cod d c
  some_predicate c = go (is_leaf cod c)
    where
      go : (b : Bool) → is_some (cond b (Some (True (leaf_of cod c))) (comparison_in cod (table cod d 208) (inner_line cod c))) ≡ b || is_comparison cod d (inner_line cod c)
      go true = refl
      go false = line_predicate (inner_line cod c)

  module _ (takes : Codelet → Decided → Source → Bool) where
    -- both arms are taken
    abbrev pub arms : Option Fork → Bool
    arms None = false
    arms (Some f) = arms_taken takes cod d f

    -- a fork that is taken is the update's, and its arms are taken
    taken_says : (o : Option Fork) → WhereSome (if_taken takes cod d o) (λ f. (o ≡ Some f) × (arms_taken takes cod d f ≡ true))
    taken_says None = tt
    taken_says (Some f) = go (arms_taken takes cod d f) refl
      where
        go : (b : Bool) → arms_taken takes cod d f ≡ b → WhereSome (cond b (Some f) None) (λ h. (Some f ≡ Some h) × (arms_taken takes cod d h ≡ true))
        go true e = (refl, e)
        go false e = tt

    pub taken_is : (u : Source) (f : Fork) → taken_fork takes cod d u ≡ Some f → (fork_of cod d u ≡ Some f) × (arms_taken takes cod d f ≡ true)
    taken_is u f e = at_some (taken_fork takes cod d u) f (λ h. (fork_of cod d u ≡ Some h) × (arms_taken takes cod d h ≡ true)) e (taken_says (fork_of cod d u))

    taken_arms : (o : Option Fork) → is_some (if_taken takes cod d o) ≡ arms o
    taken_arms None = refl
    taken_arms (Some f) = some_cond cod d (arms_taken takes cod d f) f

    on_predicate : (c a b : Source) (o : Option Predicate) → arms (fork_on c a b o) ≡ is_some o && (takes cod (decide d c true) a && takes cod (decide d c false) b)
    on_predicate c a b None = refl
    on_predicate c a b (Some p) = refl

    line_arms : (o : Option Line) → arms (fork_in cod (table cod d 208) o) ≡ is_choice takes cod d o
    line_arms None = refl
    line_arms (Some (Read s)) = refl
    line_arms (Some (Copy a)) = refl
    line_arms (Some (Add a b)) = refl
    line_arms (Some (Sub a b)) = refl
    line_arms (Some (Less a b)) = refl
    line_arms (Some (Equal a b)) = refl
    line_arms (Some (Choose c a b)) =
        on_predicate (resolved_to cod d c) a b (predicate_at cod (table cod d 208) (resolved_to cod d c))
        ∙ ap (λ q. q && (takes cod (decide d (resolved_to cod d c) true) a && takes cod (decide d (resolved_to cod d c) false) b)) (some_predicate (resolved_to cod d c))
    line_arms (Some (Write s a)) = refl

    -- where the atom below does not take an update, choice takes it as the fork says
    pub choice_takes_lem : (u : Source) → takes cod d u ≡ false → is_some (taken_fork takes cod d u) ≡ choice_takes takes cod d u
    choice_takes_lem u n =
        taken_arms (fork_of cod d u)
        ∙ line_arms (inner_line cod (resolved_to cod d u))
        ∙ sym (ap (λ q. q || is_choice takes cod d (inner_line cod (resolved_to cod d u))) n)

-- what holds of an update holds of one with the same codelet, decided conditions and source
pub at_update : (P : Codelet → Decided → Source → Type 0) (x y : Codelet) (d e : Decided) (a b : Source) → x ≡ y → d ≡ e → a ≡ b → P x d a → P y e b
at_update P x y d e a b p q r h = subst (λ i. P i e b) p (subst (λ i. P x i b) q (subst (λ i. P x d i) r h))
