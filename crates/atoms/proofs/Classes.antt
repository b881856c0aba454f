-- What an update's operation says of the classes. Assumes nothing.
use Rattle.std.proofs.Common.{◌≡◌, Bool, true, false, cond, ◌&&◌, ◌||◌, Some, None, Option, refl}
use Rattle.std.specs.Prelude.{is_some}
use Rattle.lines.specs.declared.line.Source.{Source}
use Rattle.lines.specs.declared.line.Line.{Line}
use Rattle.lines.specs.declared.line.Line.TheVariants.{Read, Copy, Add, Sub, Less, Equal, Choose, Write}
use Rattle.resolving.specs.declared.codelet.Codelet.{Codelet}
use Rattle.resolving.specs.declared.decided.Decided.{Decided}
use Rattle.resolving.specs.declared.leaf.Leaf.{Leaf}
use Rattle.resolving.specs.declared.leaf.Operation.{Operation}
use Rattle.resolving.specs.declared.leaf.Operation.TheVariants.{Set, Add as ToAdd, Subtract}
use Rattle.resolving.specs.Classes.{is_sum, is_difference, operation_in, operation_of}
use Rattle.resolving.specs.Codelets.{inner_line}
use Rattle.resolving.specs.Leaves.{is_old, is_leaf, is_other, leaf_of}
use Rattle.resolving.specs.Resolving.{table, resolved_to}
use Rattle.atoms.specs.Kinds.{read_write_takes, add_takes, subtract_takes}

-- OPERATIONS
abbrev pub sets : Option Operation → Bool
sets None = false
sets (Some (Set v)) = true
sets (Some (ToAdd v)) = false
sets (Some (Subtract v)) = false

abbrev pub adds : Option Operation → Bool
adds None = false
adds (Some (Set v)) = true
adds (Some (ToAdd v)) = true
adds (Some (Subtract v)) = false

module _ (cod : Codelet) (d : Decided) where
  pub some_cond : {X : Type 0} (b : Bool) (x : X) → is_some (cond b (Some x) None) ≡ b
  some_cond true x = refl
  some_cond false x = refl

  -- sums and differences
  sum_sets : (b c : Bool) (x y : Leaf) → sets (cond b (Some (ToAdd y)) (cond c (Some (ToAdd x)) None)) ≡ false
  sum_sets true c x y = refl
  sum_sets false true x y = refl
  sum_sets false false x y = refl

  sum_adds : (b c : Bool) (x y : Leaf) → adds (cond b (Some (ToAdd y)) (cond c (Some (ToAdd x)) None)) ≡ b || c
  sum_adds true c x y = refl
  sum_adds false true x y = refl
  sum_adds false false x y = refl

  sum_some : (b c : Bool) (x y : Leaf) → is_some (cond b (Some (ToAdd y)) (cond c (Some (ToAdd x)) None)) ≡ (b || c) || false
  sum_some true c x y = refl
  sum_some false true x y = refl
  sum_some false false x y = refl

  difference_sets : (b : Bool) (y : Leaf) → sets (cond b (Some (Subtract y)) None) ≡ false
  difference_sets true y = refl
  difference_sets false y = refl

  difference_adds : (b : Bool) (y : Leaf) → adds (cond b (Some (Subtract y)) None) ≡ false
  difference_adds true y = refl
  difference_adds false y = refl

  line_sets : (o : Option Line) → sets (operation_in cod (table cod d 208) o) ≡ false
  line_sets None = refl
  line_sets (Some (Read s)) = refl
  line_sets (Some (Copy a)) = refl
  line_sets (Some (Add a b)) = sum_sets (is_old cod (resolved_to cod d a) && is_other cod (resolved_to cod d b)) (is_other cod (resolved_to cod d a) && is_old cod (resolved_to cod d b)) (leaf_of cod (resolved_to cod d a)) (leaf_of cod (resolved_to cod d b))
  line_sets (Some (Sub a b)) = difference_sets (is_old cod (resolved_to cod d a) && is_other cod (resolved_to cod d b)) (leaf_of cod (resolved_to cod d b))
  line_sets (Some (Less a b)) = refl
  line_sets (Some (Equal a b)) = refl
  line_sets (Some (Choose c a b)) = refl
  line_sets (Some (Write s a)) = refl

  line_adds : (o : Option Line) → adds (operation_in cod (table cod d 208) o) ≡ is_sum cod d o
  line_adds None = refl
  line_adds (Some (Read s)) = refl
  line_adds (Some (Copy a)) = refl
  line_adds (Some (Add a b)) = sum_adds (is_old cod (resolved_to cod d a) && is_other cod (resolved_to cod d b)) (is_other cod (resolved_to cod d a) && is_old cod (resolved_to cod d b)) (leaf_of cod (resolved_to cod d a)) (leaf_of cod (resolved_to cod d b))
  line_adds (Some (Sub a b)) = difference_adds (is_old cod (resolved_to cod d a) && is_other cod (resolved_to cod d b)) (leaf_of cod (resolved_to cod d b))
  line_adds (Some (Less a b)) = refl
  line_adds (Some (Equal a b)) = refl
  line_adds (Some (Choose c a b)) = refl
  line_adds (Some (Write s a)) = refl

  line_some : (o : Option Line) → is_some (operation_in cod (table cod d 208) o) ≡ is_sum cod d o || is_difference cod d o
  line_some None = refl
  line_some (Some (Read s)) = refl
  line_some (Some (Copy a)) = refl
  line_some (Some (Add a b)) = sum_some (is_old cod (resolved_to cod d a) && is_other cod (resolved_to cod d b)) (is_other cod (resolved_to cod d a) && is_old cod (resolved_to cod d b)) (leaf_of cod (resolved_to cod d a)) (leaf_of cod (resolved_to cod d b))
  line_some (Some (Sub a b)) = some_cond (is_old cod (resolved_to cod d a) && is_other cod (resolved_to cod d b)) (Subtract (leaf_of cod (resolved_to cod d b)))
  line_some (Some (Less a b)) = refl
  line_some (Some (Equal a b)) = refl
  line_some (Some (Choose c a b)) = refl
  line_some (Some (Write s a)) = refl

  module _ (u : Source) where
    abbrev leaf : Leaf
    leaf = leaf_of cod (resolved_to cod d u)

    abbrev line : Option Line
    line = inner_line cod (resolved_to cod d u)

    pub read_write_takes_lem : sets (operation_of cod d u) ≡ read_write_takes cod d u
    read_write_takes_lem = go (is_leaf cod (resolved_to cod d u))
      where
        go : (b : Bool) → sets (cond b (Some (Set leaf)) (operation_in cod (table cod d 208) line)) ≡ b
        go true = refl
        go false = line_sets line

    pub add_takes_lem : adds (operation_of cod d u) ≡ add_takes cod d u
    add_takes_lem = go (is_leaf cod (resolved_to cod d u))
      where
        go : (b : Bool) → adds (cond b (Some (Set leaf)) (operation_in cod (table cod d 208) line)) ≡ b || is_sum cod d line
        go true = refl
        go false = line_adds line

    pub subtract_takes_lem : is_some (operation_of cod d u) ≡ subtract_takes cod d u
    subtract_takes_lem = go (is_leaf cod (resolved_to cod d u))
      where
        go : (b : Bool) → is_some (cond b (Some (Set leaf)) (operation_in cod (table cod d 208) line)) ≡ (b || is_sum cod d line) || is_difference cod d line
        go true = refl
        go false = line_some line
