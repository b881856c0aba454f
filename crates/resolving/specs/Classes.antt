-- What an update is: a leaf, an operation on the old word, or a choice on a predicate. Assumes nothing.
use Rattle.std.specs.Prelude.{Bool, false, cond, ◌&&◌, ◌||◌, List, Some, None, Option}
use Rattle.lines.specs.declared.line.Source.{Source}
use Rattle.lines.specs.declared.line.Line.{Line}
use Rattle.lines.specs.declared.line.Line.TheVariants.{Read, Copy, Add, Sub, Less, Equal, Choose, Write}
use Rattle.resolving.specs.declared.codelet.Codelet.{Codelet}
use Rattle.resolving.specs.declared.decided.Decided.{Decided}
use Rattle.resolving.specs.declared.leaf.Leaf.{Leaf}
use Rattle.resolving.specs.declared.leaf.Operation.{Operation}
use Rattle.resolving.specs.declared.leaf.Operation.TheVariants.{Set, Add as ToAdd, Subtract}
use Rattle.resolving.specs.declared.leaf.Predicate.{Predicate}
use Rattle.resolving.specs.declared.leaf.Predicate.TheVariants.{True, Less as IsLess, Equal as IsEqual}
use Rattle.resolving.specs.declared.fork.Fork.{Fork}
use Rattle.resolving.specs.Codelets.{inner_line}
use Rattle.resolving.specs.Leaves.{is_old, is_leaf, is_other, leaf_of}
use Rattle.resolving.specs.Resolving.{found, table, resolved_to}

-- IN THE SUBJECT'S WORDS. Every source is resolved under the decided conditions first.
-- old + v or v + old, for a leaf v other than the old word
abbrev pub is_sum : Codelet → Decided → Option Line → Bool
is_sum cod d None = false
is_sum cod d (Some (Read s)) = false
is_sum cod d (Some (Copy a)) = false
is_sum cod d (Some (Add a b)) = (is_old cod (resolved_to cod d a) && is_other cod (resolved_to cod d b)) || (is_other cod (resolved_to cod d a) && is_old cod (resolved_to cod d b))
is_sum cod d (Some (Sub a b)) = false
is_sum cod d (Some (Less a b)) = false
is_sum cod d (Some (Equal a b)) = false
is_sum cod d (Some (Choose c a b)) = false
is_sum cod d (Some (Write s a)) = false

-- old - v
abbrev pub is_difference : Codelet → Decided → Option Line → Bool
is_difference cod d None = false
is_difference cod d (Some (Read s)) = false
is_difference cod d (Some (Copy a)) = false
is_difference cod d (Some (Add a b)) = false
is_difference cod d (Some (Sub a b)) = is_old cod (resolved_to cod d a) && is_other cod (resolved_to cod d b)
is_difference cod d (Some (Less a b)) = false
is_difference cod d (Some (Equal a b)) = false
is_difference cod d (Some (Choose c a b)) = false
is_difference cod d (Some (Write s a)) = false

-- a less or an equal of two leaves
abbrev pub is_comparison : Codelet → Decided → Option Line → Bool
is_comparison cod d None = false
is_comparison cod d (Some (Read s)) = false
is_comparison cod d (Some (Copy a)) = false
is_comparison cod d (Some (Add a b)) = false
is_comparison cod d (Some (Sub a b)) = false
is_comparison cod d (Some (Less a b)) = is_leaf cod (resolved_to cod d a) && is_leaf cod (resolved_to cod d b)
is_comparison cod d (Some (Equal a b)) = is_leaf cod (resolved_to cod d a) && is_leaf cod (resolved_to cod d b)
is_comparison cod d (Some (Choose c a b)) = false
is_comparison cod d (Some (Write s a)) = false

-- a resolved condition is a predicate: a leaf, or an inner comparison of leaves
abbrev pub is_predicate : Codelet → Decided → Source → Bool
is_predicate cod d c = is_leaf cod c || is_comparison cod d (inner_line cod c)

-- WHAT IS DONE AND TESTED, over a table of resolved lines
abbrev pub sum_of : Codelet → Source → Source → Option Operation
sum_of cod x y = cond (is_old cod x && is_other cod y) (Some (ToAdd (leaf_of cod y))) (cond (is_other cod x && is_old cod y) (Some (ToAdd (leaf_of cod x))) None)

abbrev pub difference_of : Codelet → Source → Source → Option Operation
difference_of cod x y = cond (is_old cod x && is_other cod y) (Some (Subtract (leaf_of cod y))) None

abbrev pub operation_in : Codelet → List Source → Option Line → Option Operation
operation_in cod t None = None
operation_in cod t (Some (Read s)) = None
operation_in cod t (Some (Copy a)) = None
operation_in cod t (Some (Add a b)) = sum_of cod (found t a) (found t b)
operation_in cod t (Some (Sub a b)) = difference_of cod (found t a) (found t b)
operation_in cod t (Some (Less a b)) = None
operation_in cod t (Some (Equal a b)) = None
operation_in cod t (Some (Choose c a b)) = None
operation_in cod t (Some (Write s a)) = None

abbrev pub operation_at : Codelet → List Source → Source → Option Operation
operation_at cod t r = cond (is_leaf cod r) (Some (Set (leaf_of cod r))) (operation_in cod t (inner_line cod r))

abbrev pub operation_of : Codelet → Decided → Source → Option Operation
operation_of cod d u = operation_at cod (table cod d 208) (resolved_to cod d u)

-- the names of two sources, where both are leaves
abbrev pub leaves_of : Codelet → Source → Source → Option (Leaf × Leaf)
leaves_of cod x y = cond (is_leaf cod x && is_leaf cod y) (Some (leaf_of cod x, leaf_of cod y)) None

abbrev pub comparison_of : Codelet → (Leaf → Leaf → Predicate) → Source → Source → Option Predicate
comparison_of cod test x y = cond (is_leaf cod x && is_leaf cod y) (Some (test (leaf_of cod x) (leaf_of cod y))) None

abbrev pub comparison_in : Codelet → List Source → Option Line → Option Predicate
comparison_in cod t None = None
comparison_in cod t (Some (Read s)) = None
comparison_in cod t (Some (Copy a)) = None
comparison_in cod t (Some (Add a b)) = None
comparison_in cod t (Some (Sub a b)) = None
comparison_in cod t (Some (Less a b)) = comparison_of cod IsLess (found t a) (found t b)
comparison_in cod t (Some (Equal a b)) = comparison_of cod IsEqual (found t a) (found t b)
comparison_in cod t (Some (Choose c a b)) = None
comparison_in cod t (Some (Write s a)) = None

abbrev pub predicate_at : Codelet → List Source → Source → Option Predicate
predicate_at cod t c = cond (is_leaf cod c) (Some (True (leaf_of cod c))) (comparison_in cod t (inner_line cod c))

abbrev pub fork_on : Source → Source → Source → Option Predicate → Option Fork
fork_on c a b None = None
fork_on c a b (Some p) = Some (record { condition = c; predicate = p; first = a; second = b })

abbrev pub fork_in : Codelet → List Source → Option Line → Option Fork
fork_in cod t None = None
fork_in cod t (Some (Read s)) = None
fork_in cod t (Some (Copy a)) = None
fork_in cod t (Some (Add a b)) = None
fork_in cod t (Some (Sub a b)) = None
fork_in cod t (Some (Less a b)) = None
fork_in cod t (Some (Equal a b)) = None
fork_in cod t (Some (Choose c a b)) = fork_on (found t c) a b (predicate_at cod t (found t c))
fork_in cod t (Some (Write s a)) = None

abbrev pub fork_of : Codelet → Decided → Source → Option Fork
fork_of cod d u = fork_in cod (table cod d 208) (inner_line cod (resolved_to cod d u))
