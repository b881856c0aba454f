-- The serial meaning: a packet alone, its statements in written order. Assumes nothing.
use Rattle.std.specs.Prelude.{ℕ, Bool, true, cond, not, ◌&&◌, List, [], ◌∷◌, Some, None, Option, slice_index, slice_set}
use Rattle.word.specs.Words.{truth, less_than, equal_to, chosen}
use Rattle.transaction.specs.declared.statement.Operand.{Operand}
use Rattle.transaction.specs.declared.statement.Operand.TheVariants.{Field, State, Constant}
use Rattle.transaction.specs.declared.statement.Target.{Target}
use Rattle.transaction.specs.declared.statement.Target.TheVariants.{Field as ToField, State as ToState}
use Rattle.transaction.specs.declared.statement.Statement.{Statement}
use Rattle.transaction.specs.declared.statement.Statement.TheVariants.{Copy, Add, Sub, Less, Equal, Choose, If, Else, End}
use Rattle.transaction.specs.declared.frame.Frame.{Frame}
use Rattle.transaction.specs.Frames.{begun, turned, outer}

-- a packet's fields and the kept words
pub record Values : Type 0 where
  pub fields : List ℕ
  pub words : List ℕ

abbrev pub values : List ℕ → List ℕ → Values
values fs ws = record { fields = fs; words = ws }

-- a run under way: the values, and the open ifs, innermost first, each with whether its condition was true at the if
pub record Context : Type 0 where
  pub values : Values
  pub nest : List (Frame Bool)

abbrev pub context : Values → List (Frame Bool) → Context
context v frames = record { values = v; nest = frames }

-- what an operand stands for now
abbrev pub operand_in : Values → Operand → ℕ
operand_in v (Field i) = slice_index v.fields i
operand_in v (State s) = slice_index v.words s
operand_in v (Constant c) = c

abbrev pub stored : Target → ℕ → Values → Values
stored (ToField i) x v = values (slice_set v.fields i x) v.words
stored (ToState s) x v = values v.fields (slice_set v.words s x)

-- whether the part of an if that is written here is the one that runs
abbrev pub taken : Frame Bool → Bool
taken f = cond f.second (not f.on) f.on

abbrev pub live : List (Frame Bool) → Bool
live [] = true
live (f ∷ frames) = taken f && live frames

-- an assignment acts where, of every open if, the part that runs is the one written here
abbrev pub assigned : Option (Target × ℕ) → List (Frame Bool) → Values → Values
assigned (Some p) frames v = cond (live frames) (stored p.0 p.1 v) v
assigned None frames v = v

-- the open ifs after a statement: a condition is read at its if, and never again
abbrev pub nest_after : Statement → Values → List (Frame Bool) → List (Frame Bool)
nest_after (Copy t a) v frames = frames
nest_after (Add t a b) v frames = frames
nest_after (Sub t a b) v frames = frames
nest_after (Less t a b) v frames = frames
nest_after (Equal t a b) v frames = frames
nest_after (Choose t c a b) v frames = frames
nest_after (If c) v frames = begun (truth (operand_in v c)) frames
nest_after Else v frames = turned frames
nest_after End v frames = outer frames

module _ (plus minus : ℕ → ℕ → ℕ) where
  -- what an assignment makes, and where it goes
  abbrev pub made : Statement → Values → Option (Target × ℕ)
  made (Copy t a) v = Some (t, operand_in v a)
  made (Add t a b) v = Some (t, plus (operand_in v a) (operand_in v b))
  made (Sub t a b) v = Some (t, minus (operand_in v a) (operand_in v b))
  made (Less t a b) v = Some (t, less_than (operand_in v a) (operand_in v b))
  made (Equal t a b) v = Some (t, equal_to (operand_in v a) (operand_in v b))
  made (Choose t c a b) v = Some (t, chosen (operand_in v c) (operand_in v a) (operand_in v b))
  made (If c) v = None
  made Else v = None
  made End v = None

  -- one statement
  abbrev pub step : Statement → Context → Context
  step x h = context (assigned (made x h.values) h.nest h.values) (nest_after x h.values h.nest)

  -- statements one after another
  abbrev pub run : List Statement → Context → Context
  run [] h = h
  run (x ∷ xs) h = run xs (step x h)

  -- what a packet that runs alone leaves of the values that it meets
  abbrev pub alone : List Statement → Values → Values
  alone xs v = (run xs (context v [])).values
