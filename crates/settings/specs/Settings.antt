-- How a setting's numbers say what an atom does. Assumes nothing.
use Rattle.std.specs.Prelude.{ℕ, ◌+◌, Bool, cond, ◌&&◌, List, length, ◌==◌, nat_le, nat_lt, slice_index}
use Rattle.word.specs.Words.{top}
use Rattle.resolving.specs.declared.leaf.Leaf.{Leaf}
use Rattle.resolving.specs.declared.leaf.Leaf.TheVariants.{Old, Field, Line, Constant}
use Rattle.resolving.specs.declared.leaf.Operation.{Operation}
use Rattle.resolving.specs.declared.leaf.Operation.TheVariants.{Set, Add, Subtract}
use Rattle.resolving.specs.declared.leaf.Predicate.{Predicate}
use Rattle.resolving.specs.declared.leaf.Predicate.TheVariants.{Always, True, Less, Equal}

-- a leaf is two numbers: 0 and any for the old word, 1 and a field, 2 and a line, another and a constant
abbrev pub leaf_from : ℕ → ℕ → Leaf
leaf_from kind n = cond (kind == 0) Old (cond (kind == 1) (Field n) (cond (kind == 2) (Line n) (Constant n)))

abbrev pub leaf_numbers : Leaf → ℕ × ℕ
leaf_numbers Old = (0, 0)
leaf_numbers (Field i) = (1, i)
leaf_numbers (Line n) = (2, n)
leaf_numbers (Constant w) = (3, w)

abbrev pub leaf_at : List ℕ → ℕ → Leaf
leaf_at s i = leaf_from (slice_index s i) (slice_index s (i + 1))

-- an operation is three: 1 for old + v, 2 for old - v, another for v; then the leaf v
abbrev pub operation_from : List ℕ → Operation
operation_from s = cond (slice_index s 0 == 1) (Add (leaf_at s 1)) (cond (slice_index s 0 == 2) (Subtract (leaf_at s 1)) (Set (leaf_at s 1)))

-- a predicate is five: 0 for always, 1 for the first leaf taken as true, 2 for less, another for equal; then two leaves
abbrev pub predicate_from : List ℕ → Predicate
predicate_from s =
    cond (slice_index s 0 == 0) Always
    (cond (slice_index s 0 == 1) (True (leaf_at s 1))
    (cond (slice_index s 0 == 2) (Less (leaf_at s 1) (leaf_at s 3)) (Equal (leaf_at s 1) (leaf_at s 3))))

-- what is written first for an operation, and for a predicate
abbrev pub operation_number : Operation → ℕ
operation_number (Set v) = 0
operation_number (Add v) = 1
operation_number (Subtract v) = 2

abbrev pub predicate_number : Predicate → ℕ
predicate_number Always = 0
predicate_number (True a) = 1
predicate_number (Less a b) = 2
predicate_number (Equal a b) = 3

-- the two leaves that are written for a predicate; where it has none, the old word
abbrev pub left_leaf : Predicate → Leaf
left_leaf Always = Old
left_leaf (True a) = a
left_leaf (Less a b) = a
left_leaf (Equal a b) = a

abbrev pub right_leaf : Predicate → Leaf
right_leaf Always = Old
right_leaf (True a) = Old
right_leaf (Less a b) = b
right_leaf (Equal a b) = b

-- a setting of n numbers goes into the buffer; the top word stands for a length that is not told
abbrev pub has_room : ℕ → List ℕ → Bool
has_room n buffer = nat_lt n top && nat_le n (length buffer)
