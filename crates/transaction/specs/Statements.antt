-- What the numbers of an image name. Assumes nothing.
use Rattle.std.specs.Prelude.{ℕ, ◌-◌, cond, ◌&&◌, Some, None, Option, ◌==◌, nat_le, nat_lt}
use Rattle.transaction.specs.declared.statement.Operand.{Operand}
use Rattle.transaction.specs.declared.statement.Operand.TheVariants.{Field, State}
use Rattle.transaction.specs.declared.statement.Target.{Target}
use Rattle.transaction.specs.declared.statement.Target.TheVariants.{Field as ToField, State as ToState}
use Rattle.transaction.specs.declared.statement.Place.{Place}
use Rattle.transaction.specs.declared.statement.Place.TheVariants.{Field as AtField, State as AtState, Constant as AtConstant}
use Rattle.transaction.specs.declared.statement.Kind.{Kind}
use Rattle.transaction.specs.declared.statement.Kind.TheVariants.{Copy, Add, Sub, Less, Equal, Choose, If, Else, End}
use Rattle.transaction.specs.declared.statement.UnknownKind.{UnknownKind}
use Rattle.transaction.specs.declared.statement.Statement.{Statement}
use Rattle.transaction.specs.declared.statement.Statement.TheVariants.{Copy as SCopy, Add as SAdd, Sub as SSub, Less as SLess, Equal as SEqual, Choose as SChoose, If as SIf, Else as SElse, End as SEnd}

-- places 0 to 15 are fields, of which f are there; 16 to 23 are states, of which s are there; 24 is a constant
abbrev pub placed : ℕ → ℕ → ℕ → Option Place
placed f s n =
    cond (nat_lt n 16 && nat_lt n f) (Some (AtField n))
    (cond (nat_le 16 n && (nat_lt n 24 && nat_lt (n - 16) s)) (Some (AtState (n - 16)))
    (cond (n == 24) (Some AtConstant) None))

-- kinds 0 to 8
abbrev pub kinded : ℕ → Option Kind
kinded n =
    cond (n == 0) (Some Copy)
    (cond (n == 1) (Some Add)
    (cond (n == 2) (Some Sub)
    (cond (n == 3) (Some Less)
    (cond (n == 4) (Some Equal)
    (cond (n == 5) (Some Choose)
    (cond (n == 6) (Some If)
    (cond (n == 7) (Some Else)
    (cond (n == 8) (Some End) None))))))))

-- that a number is no kind's
abbrev pub unknown : ℕ → UnknownKind
unknown n = record { number = n }

abbrev pub target_operand : Target → Operand
target_operand (ToField i) = Field i
target_operand (ToState s) = State s

abbrev pub kind_of : Statement → Kind
kind_of (SCopy t a) = Copy
kind_of (SAdd t a b) = Add
kind_of (SSub t a b) = Sub
kind_of (SLess t a b) = Less
kind_of (SEqual t a b) = Equal
kind_of (SChoose t c a b) = Choose
kind_of (SIf c) = If
kind_of SElse = Else
kind_of SEnd = End
