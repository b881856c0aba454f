-- The written form of a transaction: the bytes of its image. Assumes nothing.
use Rattle.std.specs.Prelude.{ℕ, zero, suc, ◌+◌, ◌/◌, ◌%◌, cond, List, [], ◌∷◌, ◌++◌, length, nat_lt}
use Rattle.transaction.specs.declared.statement.Operand.{Operand}
use Rattle.transaction.specs.declared.statement.Operand.TheVariants.{Field, State, Constant}
use Rattle.transaction.specs.declared.statement.Target.{Target}
use Rattle.transaction.specs.declared.statement.Target.TheVariants.{Field as ToField, State as ToState}
use Rattle.transaction.specs.declared.statement.Kind.{Kind}
use Rattle.transaction.specs.declared.statement.Kind.TheVariants.{Copy as KCopy, Add as KAdd, Sub as KSub, Less as KLess, Equal as KEqual, Choose as KChoose, If as KIf, Else as KElse, End as KEnd}
use Rattle.transaction.specs.declared.statement.Statement.{Statement}
use Rattle.transaction.specs.declared.statement.Statement.TheVariants.{Copy, Add, Sub, Less, Equal, Choose, If, Else, End}
use Rattle.transaction.specs.Statements.{kind_of}
use Rattle.transaction.specs.WellFormed.{Program}

-- A number in its shortest form: groups of seven bits, lowest first, with the top bit set on every byte but the last.
-- At most k groups; five hold every word.
abbrev pub written_in : ℕ → ℕ → List ℕ
written_in zero n = []
written_in (suc k) n = cond (nat_lt n 128) (n ∷ []) ((128 + n % 128) ∷ written_in k (n / 128))

abbrev pub number : ℕ → List ℕ
number n = written_in 5 n

abbrev pub kind_number : Kind → ℕ
kind_number KCopy = 0
kind_number KAdd = 1
kind_number KSub = 2
kind_number KLess = 3
kind_number KEqual = 4
kind_number KChoose = 5
kind_number KIf = 6
kind_number KElse = 7
kind_number KEnd = 8

abbrev pub written_target : Target → List ℕ
written_target (ToField i) = number i
written_target (ToState s) = number (16 + s)

abbrev pub written_operand : Operand → List ℕ
written_operand (Field i) = number i
written_operand (State s) = number (16 + s)
written_operand (Constant c) = number 24 ++ number c

-- what follows the kind of a statement
abbrev pub written_rest : Statement → List ℕ
written_rest (Copy t a) = written_target t ++ written_operand a
written_rest (Add t a b) = written_target t ++ (written_operand a ++ written_operand b)
written_rest (Sub t a b) = written_target t ++ (written_operand a ++ written_operand b)
written_rest (Less t a b) = written_target t ++ (written_operand a ++ written_operand b)
written_rest (Equal t a b) = written_target t ++ (written_operand a ++ written_operand b)
written_rest (Choose t c a b) = written_target t ++ (written_operand c ++ (written_operand a ++ written_operand b))
written_rest (If c) = written_operand c
written_rest Else = []
written_rest End = []

abbrev pub written_statement : Statement → List ℕ
written_statement x = number (kind_number (kind_of x)) ++ written_rest x

abbrev pub written_all : List Statement → List ℕ
written_all [] = []
written_all (x ∷ xs) = written_statement x ++ written_all xs

-- the version 1, the field count, the state count, the statement count and the statements
abbrev pub written : Program → List ℕ
written p = number 1 ++ (number p.fields ++ (number p.states ++ (number (length p.statements) ++ written_all p.statements)))
