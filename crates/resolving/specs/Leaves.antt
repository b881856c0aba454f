-- Leaves, and what a leaf, an operation and a predicate give. Assumes nothing.
use Rattle.std.specs.Prelude.{ℕ, Bool, true, cond, not, ◌&&◌, ◌||◌, Some, None, Option, slice_index}
use Rattle.word.specs.Words.{Word, truth, less_than, equal_to}
use Rattle.lines.specs.declared.line.Source.{Source}
use Rattle.lines.specs.declared.line.Source.TheVariants.{Field, Line as Made, Constant}
use Rattle.resolving.specs.declared.codelet.Codelet.{Codelet}
use Rattle.resolving.specs.declared.packet.Packet.{Packet}
use Rattle.resolving.specs.declared.leaf.Leaf.{Leaf}
use Rattle.resolving.specs.declared.leaf.Leaf.TheVariants.{Old, Field as LField, Line as LLine, Constant as LConstant}
use Rattle.resolving.specs.declared.leaf.Operation.{Operation}
use Rattle.resolving.specs.declared.leaf.Operation.TheVariants.{Set, Add, Subtract}
use Rattle.resolving.specs.declared.leaf.Predicate.{Predicate}
use Rattle.resolving.specs.declared.leaf.Predicate.TheVariants.{Always, True, Less, Equal}
use Rattle.resolving.specs.Codelets.{is_inner}
use Rattle.resolving.specs.Sameness.{same}

-- a source is the old word
abbrev pub is_old : Codelet → Source → Bool
is_old cod a = same a (Made cod.read)

-- a leaf: the old word, a value from outside the codelet, or a constant
abbrev pub is_leaf : Codelet → Source → Bool
is_leaf cod (Field i) = true
is_leaf cod (Made n) = is_old cod (Made n) || not (is_inner cod n)
is_leaf cod (Constant w) = true

-- a leaf other than the old word
abbrev pub is_other : Codelet → Source → Bool
is_other cod a = is_leaf cod a && not (is_old cod a)

-- a leaf's name
abbrev pub leaf_of : Codelet → Source → Leaf
leaf_of cod (Field i) = LField i
leaf_of cod (Made n) = cond (is_old cod (Made n)) Old (LLine n)
leaf_of cod (Constant w) = LConstant w

-- the constant that a leaf names is a word
abbrev pub NamesWord : Leaf → Type 0
NamesWord Old = Unit {0}
NamesWord (LField i) = Unit {0}
NamesWord (LLine n) = Unit {0}
NamesWord (LConstant w) = Word w

-- what a leaf, an operation and a predicate give at an old word and a packet
abbrev pub leaf_value : Leaf → ℕ → Packet → ℕ
leaf_value Old old p = old
leaf_value (LField i) old p = slice_index p.fields i
leaf_value (LLine n) old p = slice_index p.lines n
leaf_value (LConstant w) old p = w

abbrev pub holds_at : Predicate → ℕ → Packet → Bool
holds_at Always old p = true
holds_at (True a) old p = truth (leaf_value a old p)
holds_at (Less a b) old p = truth (less_than (leaf_value a old p) (leaf_value b old p))
holds_at (Equal a b) old p = truth (equal_to (leaf_value a old p) (leaf_value b old p))

abbrev pub operand : Operation → Leaf
operand (Set v) = v
operand (Add v) = v
operand (Subtract v) = v

abbrev pub result : (plus minus : ℕ → ℕ → ℕ) → Operation → ℕ → Packet → ℕ
result plus minus (Set v) old p = leaf_value v old p
result plus minus (Add v) old p = plus old (leaf_value v old p)
result plus minus (Subtract v) old p = minus old (leaf_value v old p)

-- the constant that an operation names, where there is one, is a word
abbrev pub OperatesOnWord : Option Operation → Type 0
OperatesOnWord None = Unit {0}
OperatesOnWord (Some o) = NamesWord (operand o)
