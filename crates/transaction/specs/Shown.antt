-- How a refusal and a statement are printed. Assumes nothing.
use Rattle.std.specs.Prelude.{ℕ, List, ◌++◌, codes, decimal}
use Rattle.transaction.specs.declared.statement.Operand.{Operand}
use Rattle.transaction.specs.declared.statement.Operand.TheVariants.{Field, State, Constant}
use Rattle.transaction.specs.declared.statement.Target.{Target}
use Rattle.transaction.specs.declared.statement.Target.TheVariants.{Field as ToField, State as ToState}
use Rattle.transaction.specs.declared.statement.Statement.{Statement}
use Rattle.transaction.specs.declared.statement.Statement.TheVariants.{Copy, Add, Sub, Less, Equal, Choose, If, Else, End}

abbrev pub refusal_text : ℕ → ℕ → List ℕ
refusal_text number at = codes "refused " ++ (decimal number ++ (codes " " ++ decimal at))

abbrev pub operand_text : Operand → List ℕ
operand_text (Field i) = codes "f" ++ decimal i
operand_text (State s) = codes "s" ++ decimal s
operand_text (Constant c) = decimal c

abbrev pub target_text : Target → List ℕ
target_text (ToField i) = codes "f" ++ decimal i
target_text (ToState s) = codes "s" ++ decimal s

abbrev pub pair_text : Target → Operand → List ℕ → Operand → List ℕ
pair_text t a sign b = target_text t ++ (codes " := " ++ (operand_text a ++ (sign ++ operand_text b)))

abbrev pub statement_text : Statement → List ℕ
statement_text (Copy t a) = target_text t ++ (codes " := " ++ operand_text a)
statement_text (Add t a b) = pair_text t a (codes " + ") b
statement_text (Sub t a b) = pair_text t a (codes " - ") b
statement_text (Less t a b) = pair_text t a (codes " < ") b
statement_text (Equal t a b) = pair_text t a (codes " == ") b
statement_text (Choose t c a b) = target_text t ++ (codes " := " ++ (operand_text c ++ (codes " ? " ++ (operand_text a ++ (codes " : " ++ operand_text b)))))
statement_text (If c) = codes "if " ++ operand_text c
statement_text Else = codes "else"
statement_text End = codes "end"
