-- What a transaction says. Assumes nothing.
use Rattle.std.specs.Prelude.{List, take}
use Rattle.transaction.specs.declared.statement.Statement.{Statement}
use Rattle.transaction.specs.declared.transaction.Transaction.{Transaction}
use Rattle.transaction.specs.WellFormed.{Program}

abbrev pub statements_of : Transaction → List Statement
statements_of t = take t.count t.statements

abbrev pub program_of : Transaction → Program
program_of t = record { fields = t.fields; states = t.states; statements = statements_of t }
