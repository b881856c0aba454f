-- The lines of some transactions. Assumes nothing.
use Rattle.std.specs.Prelude.{◌≡◌, true, false, List, [], ◌∷◌, length, take, slice_index_or}
use Rattle.transaction.specs.declared.statement.Operand.TheVariants.{Field, State, Constant}
use Rattle.transaction.specs.declared.statement.Target.TheVariants.{Field as ToField, State as ToState}
use Rattle.transaction.specs.declared.statement.Statement.{Statement}
use Rattle.transaction.specs.declared.statement.Statement.TheVariants.{Copy, Add, Sub, Less, Equal, If, Else, End}
use Rattle.lines.specs.declared.line.Source.TheVariants.{Field as Incoming, Line as Made, Constant as Fixed}
use Rattle.lines.specs.declared.line.Line.TheVariants.{Read, Copy as LCopy, Add as LAdd, Sub as LSub, Less as LLess, Equal as LEqual, Choose as LChoose, Write}
use Rattle.lines.specs.Named.{named_of}
use Rattle.lines.specs.Build.{body_of, lines_of, finals_of, numbered}

-- every tenth packet is marked in field 0
abbrev pub sampling : List Statement
sampling =
    Equal (ToField 1) (State 0) (Constant 9)
    ∷ (If (Field 1)
    ∷ (Copy (ToField 0) (Constant 1)
    ∷ (Copy (ToState 0) (Constant 0)
    ∷ (Else
    ∷ (Copy (ToField 0) (Constant 0)
    ∷ (Add (ToState 0) (State 0) (Constant 1)
    ∷ (End ∷ [])))))))

pub record SamplingLines : Type 0 where
  pub lines :
      lines_of sampling
      ≡ Read 0
      ∷ (LEqual (Made 0) (Fixed 9)
      ∷ (LCopy (Fixed 1)
      ∷ (LChoose (Made 1) (Made 2) (Incoming 0)
      ∷ (LCopy (Fixed 0)
      ∷ (LChoose (Made 1) (Made 4) (Made 0)
      ∷ (LCopy (Fixed 0)
      ∷ (LChoose (Made 1) (Made 3) (Made 6)
      ∷ (LAdd (Made 5) (Fixed 1)
      ∷ (LChoose (Made 1) (Made 5) (Made 8)
      ∷ (Write 0 (Made 9) ∷ []))))))))))
  pub finals : take 2 (finals_of sampling) ≡ Made 7 ∷ (Made 1 ∷ [])
  pub named : named_of sampling ≡ true ∷ (false ∷ (false ∷ (false ∷ (false ∷ (false ∷ (false ∷ (false ∷ [])))))))
  pub read : slice_index_or (numbered 0 (named_of sampling)) 0 0 ≡ 0
  pub write : slice_index_or (numbered (length (body_of sampling).lines) (named_of sampling)) 0 0 ≡ 10

-- flowlet switching: a packet that comes more than 5 ticks after the last one may take a new hop.
-- Field 0 is the arrival, 1 the new hop, 2 the hop taken; state 0 is the last arrival, 1 the saved hop.
abbrev pub flowlets : List Statement
flowlets =
    Sub (ToField 3) (Field 0) (State 0)
    ∷ (Less (ToField 3) (Constant 5) (Field 3)
    ∷ (If (Field 3)
    ∷ (Copy (ToState 1) (Field 1)
    ∷ (End
    ∷ (Copy (ToState 0) (Field 0)
    ∷ (Copy (ToField 2) (State 1) ∷ []))))))

abbrev pub FlowletLines : Type 0
FlowletLines =
    lines_of flowlets
    ≡ Read 0
    ∷ (Read 1
    ∷ (LSub (Incoming 0) (Made 0)
    ∷ (LLess (Fixed 5) (Made 2)
    ∷ (LCopy (Incoming 1)
    ∷ (LChoose (Made 3) (Made 4) (Made 1)
    ∷ (LCopy (Incoming 0)
    ∷ (LCopy (Made 5)
    ∷ (Write 0 (Made 6)
    ∷ (Write 1 (Made 5) ∷ [])))))))))

-- rate control: bytes are summed, and round trips below 30 ticks are summed and counted.
-- Field 0 is the size, 1 the round trip; states 0, 1 and 2 are the bytes, the sum and the count.
abbrev pub rates : List Statement
rates =
    Add (ToState 0) (State 0) (Field 0)
    ∷ (Less (ToField 2) (Field 1) (Constant 30)
    ∷ (If (Field 2)
    ∷ (Add (ToState 1) (State 1) (Field 1)
    ∷ (Add (ToState 2) (State 2) (Constant 1)
    ∷ (End ∷ [])))))

abbrev pub RateLines : Type 0
RateLines =
    lines_of rates
    ≡ Read 0
    ∷ (Read 1
    ∷ (Read 2
    ∷ (LAdd (Made 0) (Incoming 0)
    ∷ (LLess (Incoming 1) (Fixed 30)
    ∷ (LAdd (Made 1) (Incoming 1)
    ∷ (LChoose (Made 4) (Made 5) (Made 1)
    ∷ (LAdd (Made 2) (Fixed 1)
    ∷ (LChoose (Made 4) (Made 7) (Made 2)
    ∷ (Write 0 (Made 3)
    ∷ (Write 1 (Made 6)
    ∷ (Write 2 (Made 8) ∷ [])))))))))))

-- two ifs, one in the other: a state that only a condition names, and a condition that its own branch changes
abbrev pub nested_ifs : List Statement
nested_ifs =
    If (State 0)
    ∷ (If (Field 0)
    ∷ (Copy (ToField 0) (Constant 0)
    ∷ (Else
    ∷ (Copy (ToField 1) (Field 0)
    ∷ (End
    ∷ (End ∷ []))))))

abbrev pub NestedLines : Type 0
NestedLines =
    lines_of nested_ifs
    ≡ Read 0
    ∷ (LCopy (Fixed 0)
    ∷ (LChoose (Incoming 0) (Made 1) (Incoming 0)
    ∷ (LChoose (Made 0) (Made 2) (Incoming 0)
    ∷ (LCopy (Made 3)
    ∷ (LChoose (Incoming 0) (Incoming 1) (Made 4)
    ∷ (LChoose (Made 0) (Made 5) (Incoming 1)
    ∷ (Write 0 (Made 0) ∷ [])))))))
