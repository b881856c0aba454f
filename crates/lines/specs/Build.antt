-- The rules of lines. Assumes nothing.
use Rattle.std.specs.Prelude.{ℕ, suc, ◌-◌, Bool, true, false, cond, List, [], ◌∷◌, ◌++◌, map, length, slice_index_or, slice_set}
use Rattle.transaction.specs.declared.statement.Operand.{Operand}
use Rattle.transaction.specs.declared.statement.Operand.TheVariants.{Field, State, Constant}
use Rattle.transaction.specs.declared.statement.Target.{Target}
use Rattle.transaction.specs.declared.statement.Target.TheVariants.{Field as ToField, State as ToState}
use Rattle.transaction.specs.declared.statement.Statement.{Statement}
use Rattle.transaction.specs.declared.statement.Statement.TheVariants.{Copy, Add, Sub, Less, Equal, Choose, If, Else, End}
use Rattle.transaction.specs.declared.frame.Frame.{Frame}
use Rattle.transaction.specs.Statements.{target_operand}
use Rattle.transaction.specs.Frames.{begun, turned, outer}
use Rattle.lines.specs.declared.line.Source.{Source}
use Rattle.lines.specs.declared.line.Source.TheVariants.{Field as Incoming, Line as Made, Constant as Fixed}
use Rattle.lines.specs.declared.line.Line.{Line}
use Rattle.lines.specs.declared.line.Line.TheVariants.{Read, Copy as LCopy, Add as LAdd, Sub as LSub, Less as LLess, Equal as LEqual, Choose as LChoose, Write}
use Rattle.lines.specs.Named.{up_from, named_of, states_from}

-- the latest value of each field and of each state
pub record Latest : Type 0 where
  pub fields : List Source
  pub states : List Source

abbrev pub latest : List Source → List Source → Latest
latest fs ss = record { fields = fs; states = ss }

-- what an operand stands for
abbrev pub source_of : Latest → Operand → Source
source_of l (Field i) = slice_index_or l.fields i (Fixed 0)
source_of l (State s) = slice_index_or l.states s (Fixed 0)
source_of l (Constant c) = Fixed c

abbrev pub renewed : Target → Source → Latest → Latest
renewed (ToField i) x l = latest (slice_set l.fields i x) l.states
renewed (ToState s) x l = latest l.fields (slice_set l.states s x)

-- the lines so far, the latest values, and the open ifs, innermost first, each with its condition as it was at the if
pub record Draft : Type 0 where
  pub lines : List Line
  pub latest : Latest
  pub nest : List (Frame Source)

abbrev pub draft : List Line → Latest → List (Frame Source) → Draft
draft ls l frames = record { lines = ls; latest = l; nest = frames }

-- the value of the last line
abbrev pub last : List Line → Source
last ls = Made (length ls - 1)

-- an open if's choose line: the new value in the first branch, and otherwise the old one; after else the two are swapped
abbrev pub choose_for : Frame Source → Source → Source → Line
choose_for f new old = cond f.second (LChoose f.on old new) (LChoose f.on new old)

-- one for each open if, innermost first: the new value is the one made so far, the old one is the same for all
abbrev pub guarded : List (Frame Source) → Source → List Line → List Line
guarded [] old ls = ls
guarded (f ∷ frames) old ls = guarded frames old (ls ++ (choose_for f (last ls) old ∷ []))

-- an assignment's lines, and the last of them is the target's latest value
abbrev pub settled : Target → List Line → Draft → Draft
settled t ls d = draft ls (renewed t (last ls) d.latest) d.nest

abbrev pub assigned : Target → Line → Draft → Draft
assigned t l d = settled t (guarded d.nest (source_of d.latest (target_operand t)) (d.lines ++ (l ∷ []))) d

abbrev pub nesting : List (Frame Source) → Draft → Draft
nesting frames d = draft d.lines d.latest frames

-- one statement more
abbrev pub adds : Statement → Draft → Draft
adds (Copy t a) d = assigned t (LCopy (source_of d.latest a)) d
adds (Add t a b) d = assigned t (LAdd (source_of d.latest a) (source_of d.latest b)) d
adds (Sub t a b) d = assigned t (LSub (source_of d.latest a) (source_of d.latest b)) d
adds (Less t a b) d = assigned t (LLess (source_of d.latest a) (source_of d.latest b)) d
adds (Equal t a b) d = assigned t (LEqual (source_of d.latest a) (source_of d.latest b)) d
adds (Choose t c a b) d = assigned t (LChoose (source_of d.latest c) (source_of d.latest a) (source_of d.latest b)) d
adds (If c) d = nesting (begun (source_of d.latest c) d.nest) d
adds Else d = nesting (turned d.nest) d
adds End d = nesting (outer d.nest) d

abbrev pub adds_all : List Statement → Draft → Draft
adds_all [] d = d
adds_all (x ∷ xs) d = adds_all xs (adds x d)

-- a read line for each named state, ascending
abbrev pub read_lines : List Bool → List Line
read_lines ms = map Read (states_from 0 ms)

-- the states' first latest values: their read lines, of which the first is line n; an unnamed state's entry has no meaning
abbrev pub firsts : ℕ → List Bool → List Source
firsts n [] = []
firsts n (true ∷ ms) = Made n ∷ firsts (suc n) ms
firsts n (false ∷ ms) = Fixed 0 ∷ firsts n ms

abbrev pub start : List Bool → Draft
start ms = draft (read_lines ms) (latest (map Incoming (up_from 16 0)) (firsts 0 ms)) []

-- a write line for each named state, ascending, which takes its latest value
abbrev pub write_line : List Source → ℕ → Line
write_line us s = Write s (slice_index_or us s (Fixed 0))

abbrev pub write_lines : List Bool → List Source → List Line
write_lines ms us = map (write_line us) (states_from 0 ms)

-- what stands before the write lines
abbrev pub body_of : List Statement → Draft
body_of xs = adds_all xs (start (named_of xs))

-- a transaction's lines, each field's final value, and what each named state's write line takes
abbrev pub lines_of : List Statement → List Line
lines_of xs = (body_of xs).lines ++ write_lines (named_of xs) (body_of xs).latest.states

abbrev pub finals_of : List Statement → List Source
finals_of xs = (body_of xs).latest.fields

abbrev pub updates_of : List Statement → List Source
updates_of xs = (body_of xs).latest.states

-- the numbers of the states' read lines, or of their write lines, of which the first is line n; an unnamed state's entry has no meaning
abbrev pub numbered : ℕ → List Bool → List ℕ
numbered n [] = []
numbered n (true ∷ ms) = n ∷ numbered (suc n) ms
numbered n (false ∷ ms) = n ∷ numbered n ms
