-- What is read from an image, byte by byte: the value and the offset after it, or the refusal. Assumes nothing.
use Rattle.std.specs.Prelude.{ℕ, zero, suc, ◌+◌, ◌-◌, ◌*◌, ◌^◌, Bool, cond, ◌&&◌, ◌||◌, List, [], ◌∷◌, ◌++◌, length, take, drop, Some, None, Ok, Err, Option, Result, ◌==◌, nat_lt}
use Rattle.transaction.specs.declared.refusal.Refusal.{Refusal}
use Rattle.transaction.specs.declared.fault.ReadFault.{ReadFault}
use Rattle.transaction.specs.declared.statement.Operand.{Operand}
use Rattle.transaction.specs.declared.statement.Operand.TheVariants.{Field, State, Constant}
use Rattle.transaction.specs.declared.statement.Target.{Target}
use Rattle.transaction.specs.declared.statement.Target.TheVariants.{Field as ToField, State as ToState}
use Rattle.transaction.specs.declared.statement.Place.{Place}
use Rattle.transaction.specs.declared.statement.Place.TheVariants.{Field as AtField, State as AtState, Constant as AtConstant}
use Rattle.transaction.specs.declared.statement.Kind.{Kind}
use Rattle.transaction.specs.declared.statement.Kind.TheVariants.{Copy as KCopy, Add as KAdd, Sub as KSub, Less as KLess, Equal as KEqual, Choose as KChoose, If as KIf, Else as KElse, End as KEnd}
use Rattle.transaction.specs.declared.statement.Statement.{Statement}
use Rattle.transaction.specs.declared.statement.Statement.TheVariants.{Copy, Add, Sub, Less, Equal, Choose, If, Else, End}
use Rattle.transaction.specs.declared.transaction.Transaction.{Transaction}
use Rattle.transaction.specs.Faults.{refusal, read_refusal}
use Rattle.transaction.specs.Statements.{placed, kinded}
use Rattle.transaction.specs.WellFormed.{Program, fits, after, opened}
use Rattle.transaction.specs.Programs.{program_of}

-- a value and the offset after it, or a refusal and the offset at which reading stopped
pub data Read (A : Type 0) : Type 0 where
  got : A → ℕ → Read A
  refused : Refusal → ℕ → Read A

-- a method's answer, where the reader stands at `at` after it
abbrev pub answered : {A : Type 0} → Result A ReadFault → ℕ → Read A
answered (Ok a) at = got a at
answered (Err f) at = refused (read_refusal f) at

-- one thing and then, from the offset after it, another
abbrev pub next : {A B : Type 0} → Read A → (A → ℕ → Read B) → Read B
next (got a at) f = f a at
next (refused r at) f = refused r at

-- a number that began at start and ends before `at`: it is a word, and its last group is 0 only where it is the only one
abbrev pub ending : ℕ → Bool → ℕ → ℕ → Read ℕ
ending start padded v at = cond (padded || nat_lt 4294967295 v) (refused (refusal 3 start) start) (got v at)

-- the number that began at start, where its first k groups of seven bits came to v; at most five bytes hold it
abbrev pub groups : ℕ → ℕ → ℕ → List ℕ → Read ℕ
groups start k v [] = refused (refusal 3 start) start
groups start k v (b ∷ bs) =
    cond (nat_lt k 5 && nat_lt b 256)
    (cond (nat_lt b 128) (ending start (b == 0 && nat_lt 0 k) (v + b * 2 ^ (7 * k)) (start + k + 1)) (groups start (k + 1) (v + (b - 128) * 2 ^ (7 * k)) bs))
    (refused (refusal 3 start) start)

abbrev pub number_at : List ℕ → ℕ → Read ℕ
number_at bs at = groups at 0 0 (drop at bs)

-- a number from low to high
abbrev pub within_at : ℕ → ℕ → List ℕ → ℕ → Read ℕ
within_at low high bs at = next (number_at bs at) (λ n end. cond (nat_lt n low || nat_lt high n) (refused (refusal 4 at) end) (got n end))

-- what a number that began at start names, or that it names nothing
abbrev pub named : {A : Type 0} → ℕ → ℕ → Option A → Read A
named start end (Some x) = got x end
named start end None = refused (refusal 5 start) end

abbrev pub kind_at : List ℕ → ℕ → Read Kind
kind_at bs at = next (number_at bs at) (λ n end. named at end (kinded n))

abbrev pub place_at : ℕ → ℕ → List ℕ → ℕ → Read Place
place_at f s bs at = next (number_at bs at) (λ n end. named at end (placed f s n))

-- a constant is no target
abbrev pub target_of : ℕ → Place → ℕ → Read Target
target_of start (AtField i) end = got (ToField i) end
target_of start (AtState s) end = got (ToState s) end
target_of start AtConstant end = refused (refusal 5 start) end

abbrev pub target_at : ℕ → ℕ → List ℕ → ℕ → Read Target
target_at f s bs at = next (place_at f s bs at) (target_of at)

-- a constant's number follows
abbrev pub operand_of : List ℕ → Place → ℕ → Read Operand
operand_of bs (AtField i) end = got (Field i) end
operand_of bs (AtState s) end = got (State s) end
operand_of bs AtConstant end = next (number_at bs end) (λ n i. got (Constant n) i)

abbrev pub operand_at : ℕ → ℕ → List ℕ → ℕ → Read Operand
operand_at f s bs at = next (place_at f s bs at) (operand_of bs)

-- a target and two operands
abbrev pub pair_at : ℕ → ℕ → List ℕ → ℕ → Read (Target × Operand × Operand)
pair_at f s bs at = next (target_at f s bs at) (λ t i. next (operand_at f s bs i) (λ a j. next (operand_at f s bs j) (λ b k. got (t, a, b) k)))

abbrev pub pair_of : (Target → Operand → Operand → Statement) → ℕ → ℕ → List ℕ → ℕ → Read Statement
pair_of make f s bs at = next (pair_at f s bs at) (λ p end. got (make p.0 p.1 p.2) end)

-- the rest of a statement whose kind is read
abbrev pub rest_at : Kind → ℕ → ℕ → List ℕ → ℕ → Read Statement
rest_at KCopy f s bs at = next (target_at f s bs at) (λ t i. next (operand_at f s bs i) (λ a j. got (Copy t a) j))
rest_at KAdd f s bs at = pair_of (λ t a b. Add t a b) f s bs at
rest_at KSub f s bs at = pair_of (λ t a b. Sub t a b) f s bs at
rest_at KLess f s bs at = pair_of (λ t a b. Less t a b) f s bs at
rest_at KEqual f s bs at = pair_of (λ t a b. Equal t a b) f s bs at
rest_at KChoose f s bs at = next (pair_at f s bs at) (λ p i. next (operand_at f s bs i) (λ b j. got (Choose p.0 p.1 p.2 b) j))
rest_at KIf f s bs at = next (operand_at f s bs at) (λ c i. got (If c) i)
rest_at KElse f s bs at = got Else at
rest_at KEnd f s bs at = got End at

-- a kind that may stand at these open ifs
abbrev pub fitting_at : List Bool → List ℕ → ℕ → Read Kind
fitting_at ifs bs at = next (kind_at bs at) (λ k end. cond (fits k ifs) (got k end) (refused (refusal 6 at) end))

-- n statements more, at these open ifs, after those of `done`
abbrev pub statements_at : ℕ → ℕ → ℕ → List ℕ → List Bool → List Statement → ℕ → Read (List Statement)
statements_at zero f s bs ifs done at = cond (opened ifs) (refused (refusal 6 (length bs)) at) (got done at)
statements_at (suc n) f s bs ifs done at =
    next (fitting_at ifs bs at) (λ k i. next (rest_at k f s bs i) (λ x end. statements_at n f s bs (after k ifs) (done ++ (x ∷ [])) end))

-- the end of the image
abbrev pub end_at : Program → List ℕ → ℕ → Read Program
end_at p bs at = cond (nat_lt at (length bs)) (refused (refusal 7 at) at) (got p at)

-- the transaction that begins at an offset and ends with the image
abbrev pub program_at : List ℕ → ℕ → Read Program
program_at bs at =
    next (within_at 1 1 bs at) (λ _ i.
    next (within_at 1 16 bs i) (λ f j.
    next (within_at 0 8 bs j) (λ s k.
    next (within_at 0 48 bs k) (λ n l.
    next (statements_at n f s bs [] [] l) (λ xs end. end_at (record { fields = f; states = s; statements = xs }) bs end)))))

-- the first n of a table that was read
abbrev pub front : ℕ → Result (List Statement) ReadFault → Result (List Statement) ReadFault
front n (Ok l) = Ok (take n l)
front n (Err f) = Err f

abbrev pub said : Result Transaction ReadFault → Result Program ReadFault
said (Ok t) = Ok (program_of t)
said (Err f) = Err f

-- an answer that tells no offset
pub data Answer (A : Type 0) : Type 0 where
  good : A → Answer A
  bad : Refusal → Answer A

abbrev pub answer : {A : Type 0} → Read A → Answer A
answer (got a at) = good a
answer (refused r at) = bad r

-- what an image says, or why it is refused
abbrev pub image_says : List ℕ → Answer Program
image_says bs = answer (program_at bs 0)

abbrev pub told_by : Result Transaction ReadFault → Answer Program
told_by (Ok t) = good (program_of t)
told_by (Err f) = bad (read_refusal f)
