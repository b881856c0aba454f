-- What the serial meaning says of whole branches. Assumes nothing.
use Rattle.std.specs.Prelude.{◌≡◌, ℕ, true, cond, List, [], ◌∷◌, ◌++◌, Some}
use Rattle.word.specs.Words.{truth}
use Rattle.transaction.specs.declared.statement.Operand.{Operand}
use Rattle.transaction.specs.declared.statement.Target.{Target}
use Rattle.transaction.specs.declared.statement.Statement.{Statement}
use Rattle.transaction.specs.declared.statement.Statement.TheVariants.{If, Else, End}
use Rattle.transaction.specs.WellFormed.{nested}
use Rattle.meaning.specs.Serial.{Values, operand_in, stored, made, alone}

-- its ifs are closed
abbrev pub Whole : List Statement → Type 0
Whole xs = nested [] xs ≡ true

-- These four rules give the meaning of every well-formed transaction.
pub record Structured (plus minus : ℕ → ℕ → ℕ) : Type 0 where
  -- no statement changes nothing
  pub nothing : (v : Values) → alone plus minus [] v ≡ v
  -- an assignment stores what it makes, and the others go on from there
  pub assignment : (x : Statement) (t : Target) (n : ℕ) (rest : List Statement) (v : Values) → made plus minus x v ≡ Some (t, n) → alone plus minus (x ∷ rest) v ≡ alone plus minus rest (stored t n v)
  -- of an if with an else, the first part runs where the condition is true at the if, and otherwise the second
  pub branches : (c : Operand) (a b rest : List Statement) (v : Values) → Whole a → Whole b → alone plus minus (If c ∷ (a ++ (Else ∷ (b ++ (End ∷ rest))))) v ≡ alone plus minus rest (cond (truth (operand_in v c)) (alone plus minus a v) (alone plus minus b v))
  -- an if without one runs its part where the condition is true at the if, and otherwise nothing
  pub branch : (c : Operand) (a rest : List Statement) (v : Values) → Whole a → alone plus minus (If c ∷ (a ++ (End ∷ rest))) v ≡ alone plus minus rest (cond (truth (operand_in v c)) (alone plus minus a v) v)
