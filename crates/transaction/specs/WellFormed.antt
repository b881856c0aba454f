-- When a transaction is well formed. Assumes nothing.
use Rattle.std.specs.Prelude.{ℕ, Bool, true, false, not, ◌&&◌, List, [], ◌∷◌, length, nat_le, nat_lt}
use Rattle.transaction.specs.declared.statement.Operand.{Operand}
use Rattle.transaction.specs.declared.statement.Operand.TheVariants.{Field, State, Constant}
use Rattle.transaction.specs.declared.statement.Target.{Target}
use Rattle.transaction.specs.declared.statement.Target.TheVariants.{Field as ToField, State as ToState}
use Rattle.transaction.specs.declared.statement.Kind.{Kind}
use Rattle.transaction.specs.declared.statement.Kind.TheVariants.{Copy as KCopy, Add as KAdd, Sub as KSub, Less as KLess, Equal as KEqual, Choose as KChoose, If as KIf, Else as KElse, End as KEnd}
use Rattle.transaction.specs.declared.statement.Statement.{Statement}
use Rattle.transaction.specs.declared.statement.Statement.TheVariants.{Copy, Add, Sub, Less, Equal, Choose, If, Else, End}
use Rattle.transaction.specs.Statements.{kind_of}

-- a transaction, as its writer thinks of it
pub record Program : Type 0 where
  pub fields : ℕ
  pub states : ℕ
  pub statements : List Statement

-- what is named is there: a field below f, a state below s, a constant that is a word
abbrev pub has : ℕ → ℕ → Operand → Bool
has f s (Field i) = nat_lt i f
has f s (State k) = nat_lt k s
has f s (Constant c) = nat_le c 4294967295

abbrev pub has_target : ℕ → ℕ → Target → Bool
has_target f s (ToField i) = nat_lt i f
has_target f s (ToState k) = nat_lt k s

abbrev pub has_all : ℕ → ℕ → Statement → Bool
has_all f s (Copy t a) = has_target f s t && has f s a
has_all f s (Add t a b) = has_target f s t && (has f s a && has f s b)
has_all f s (Sub t a b) = has_target f s t && (has f s a && has f s b)
has_all f s (Less t a b) = has_target f s t && (has f s a && has f s b)
has_all f s (Equal t a b) = has_target f s t && (has f s a && has f s b)
has_all f s (Choose t c a b) = has_target f s t && (has f s c && (has f s a && has f s b))
has_all f s (If c) = has f s c
has_all f s Else = true
has_all f s End = true

abbrev pub within : ℕ → ℕ → List Statement → Bool
within f s [] = true
within f s (x ∷ xs) = has_all f s x && within f s xs

-- The open ifs, innermost first, each with whether its else has come.
-- an if is open
abbrev pub opened : List Bool → Bool
opened [] = false
opened (e ∷ ifs) = true

-- the innermost if is open and its else has not come
abbrev pub awaits : List Bool → Bool
awaits [] = false
awaits (e ∷ ifs) = not e

-- the innermost if's else comes
abbrev pub crossed : List Bool → List Bool
crossed [] = []
crossed (e ∷ ifs) = true ∷ ifs

-- the innermost if is closed
abbrev pub closed : List Bool → List Bool
closed [] = []
closed (e ∷ ifs) = ifs

-- whether a statement of this kind may stand at these open ifs
abbrev pub fits : Kind → List Bool → Bool
fits KCopy ifs = true
fits KAdd ifs = true
fits KSub ifs = true
fits KLess ifs = true
fits KEqual ifs = true
fits KChoose ifs = true
fits KIf ifs = nat_lt (length ifs) 3
fits KElse ifs = awaits ifs
fits KEnd ifs = opened ifs

-- the open ifs after it
abbrev pub after : Kind → List Bool → List Bool
after KCopy ifs = ifs
after KAdd ifs = ifs
after KSub ifs = ifs
after KLess ifs = ifs
after KEqual ifs = ifs
after KChoose ifs = ifs
after KIf ifs = false ∷ ifs
after KElse ifs = crossed ifs
after KEnd ifs = closed ifs

-- each statement fits, and no if is left open
abbrev pub nested : List Bool → List Statement → Bool
nested ifs [] = not (opened ifs)
nested ifs (x ∷ xs) = fits (kind_of x) ifs && nested (after (kind_of x) ifs) xs

abbrev pub well_formed : Program → Bool
well_formed p =
    (nat_le 1 p.fields && nat_le p.fields 16) && (nat_le p.states 8 && (nat_le (length p.statements) 48 && (within p.fields p.states p.statements && nested [] p.statements)))
