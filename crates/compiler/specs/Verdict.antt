-- Which images have a plan and of how many stages, and why the others have none. Assumes nothing.
use Rattle.std.specs.Prelude.{◌≡◌, ℕ, zero, suc, ◌+◌, Bool, cond, not, ◌&&◌, List, map, Some, None, Ok, Err, Option, Result, nat_lt}
use Rattle.std.specs.List.{range_with_len}
use Rattle.transaction.specs.declared.statement.Statement.{Statement}
use Rattle.transaction.specs.declared.transaction.Transaction.{Transaction}
use Rattle.transaction.specs.Faults.{refusal}
use Rattle.transaction.specs.Programs.{statements_of}
use Rattle.transaction.specs.WellFormed.{Program}
use Rattle.image.specs.Reading.{Answer, good, bad, image_says}
use Rattle.lines.specs.declared.line.Source.{Source}
use Rattle.lines.specs.declared.lines.Lines.{Lines}
use Rattle.lines.specs.Unique.{IsTableOf}
use Rattle.codelets.specs.Codelets.{is_named, crowded}
use Rattle.stages.specs.declared.fault.LimitFault.{LimitFault}
use Rattle.stages.specs.declared.limits.Limits.{Limits}
use Rattle.stages.specs.declared.node.Nodes.{Nodes}
use Rattle.stages.specs.Faults.{limit_refusal}
use Rattle.stages.specs.Limits.{first_out}
use Rattle.stages.specs.Filling.{stage_count}
use Rattle.rows.specs.Sorts.{sort_of}
use Rattle.rows.specs.Rows.{row_of}
use Rattle.resolving.specs.declared.codelet.Codelet.{Codelet}
use Rattle.resolving.specs.declared.decided.Decided.{Decided}
use Rattle.resolving.specs.Sameness.{undecided}
use Rattle.updates.specs.Inner.{update_of}
use Rattle.plans.specs.declared.plan.Plan.{Plan}
use Rattle.plans.specs.Updates.{codelet_of}
use Rattle.compiler.specs.declared.fault.CompileFault.{CompileFault}
use Rattle.compiler.specs.Faults.{compile_refusal}

-- the first of the n numbers from i on that passes the test
abbrev pub first_from : ℕ → ℕ → (ℕ → Bool) → Option ℕ
first_from i zero p = None
first_from i (suc n) p = cond (p i) (Some i) (first_from (i + 1) n p)

-- the first state, if any, of which a test holds
abbrev pub first_state : (ℕ → Bool) → Option ℕ
first_state p = first_from 0 8 p

-- refused with this number where there is such a state, and its place is the state
abbrev pub refused_at : {A : Type 0} → ℕ → Option ℕ → Answer A → Answer A
refused_at n None a = a
refused_at n (Some s) a = bad (refusal n s)

-- the nodes of lines, with their rows
abbrev pub nodes_of : Lines → Nodes
nodes_of r = record { sorts = map (sort_of r) (range_with_len 0 208); rows = map (row_of r) (range_with_len 0 208) }

-- the stages that lines take, of P lines and echoes and Q atoms each
abbrev pub needed : Lines → ℕ → ℕ → ℕ
needed r P Q = stage_count (nodes_of r) P Q

-- a named state whose update is outside the atom's class, where nothing is decided yet
abbrev pub untaken : (Codelet → Decided → Source → Bool) → Lines → ℕ → Bool
untaken takes r s = is_named r s && not (takes (codelet_of r s) undecided (update_of r s))

-- What lines come to, within D stages of P lines and echoes and Q atoms: two states in one codelet, then an update outside
-- the class, then the stages.
abbrev pub judged : (Codelet → Decided → Source → Bool) → Lines → ℕ → ℕ → ℕ → Answer ℕ
judged takes r D P Q =
    refused_at 8 (first_state (crowded r)) (refused_at 9 (first_state (untaken takes r)) (cond (nat_lt D (needed r P Q)) (bad (refusal 10 (needed r P Q))) (good (needed r P Q))))

-- a limit out of its range, if there is one
abbrev pub refused_limit : {A : Type 0} → Option LimitFault → Answer A → Answer A
refused_limit None a = a
refused_limit (Some f) a = bad (limit_refusal f)

-- the transaction to compile, or the first refusal: the limits, the length of the atom's setting, the image
abbrev pub admitted : ℕ → List ℕ → ℕ → ℕ → ℕ → Answer Program
admitted len image d p q = refused_limit (first_out d p q) (cond (nat_lt 64 len) (bad (refusal 2 len)) (image_says image))

-- an answer to statements: what their lines come to
pub record StatementsJudged (takes : Codelet → Decided → Source → Bool) (xs : List Statement) (d p q : ℕ) (a : Answer ℕ) : Type 0 where
  pub lines : Lines
  pub exact : IsTableOf xs lines
  pub answer : a ≡ judged takes lines d p q
  -- whatever is the table of the statements, the answer is what it comes to
  pub every : (r : Lines) → IsTableOf xs r → a ≡ judged takes r d p q

abbrev pub TransactionJudged : (Codelet → Decided → Source → Bool) → Transaction → Limits → Answer ℕ → Type 0
TransactionJudged takes t l a = StatementsJudged takes (statements_of t) l.stages l.lines l.atoms a

-- an answer to an image that is read, or refused before its lines are made
abbrev pub ProgramJudged : (Codelet → Decided → Source → Bool) → Answer Program → ℕ → ℕ → ℕ → Answer ℕ → Type 0
ProgramJudged takes (bad f) d p q a = a ≡ bad f
ProgramJudged takes (good t) d p q a = StatementsJudged takes t.statements d p q a

-- the verdict on an image
abbrev pub Verdict : ℕ → (Codelet → Decided → Source → Bool) → List ℕ → ℕ → ℕ → ℕ → Answer ℕ → Type 0
Verdict len takes image d p q a = ProgramJudged takes (admitted len image d p q) d p q a

-- what is told of a compiled image: its number of stages, or its refusal
abbrev pub outcome : Result Plan CompileFault → Answer ℕ
outcome (Ok plan) = good plan.placement.stages.count
outcome (Err f) = bad (compile_refusal f)
