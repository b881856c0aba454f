-- What a codelet's lines make of values. Assumes nothing.
use Rattle.std.specs.Prelude.{◌≡◌, ℕ, Bool, true, false, cond, get_or, Some, None, Option, slice_index, slice_index_or}
use Rattle.word.specs.Words.{Word, less_than, equal_to, chosen}
use Rattle.lines.specs.declared.line.Source.{Source}
use Rattle.lines.specs.declared.line.Source.TheVariants.{Field, Line as Made, Constant}
use Rattle.lines.specs.declared.line.Line.{Line}
use Rattle.lines.specs.declared.line.Line.TheVariants.{Read, Copy, Add, Sub, Less, Equal, Choose, Write}
use Rattle.resolving.specs.declared.codelet.Codelet.{Codelet}
use Rattle.resolving.specs.declared.packet.Packet.{Packet}

abbrev pub line_at : Codelet → ℕ → Line
line_at cod n = slice_index_or cod.lines n (Read 0)

abbrev pub is_inner : Codelet → ℕ → Bool
is_inner cod n = slice_index_or cod.inner n false

-- the line that makes a source, where that is an inner line
abbrev pub inner_line : Codelet → Source → Option Line
inner_line cod (Field i) = None
inner_line cod (Made n) = cond (is_inner cod n) (Some (line_at cod n)) None
inner_line cod (Constant w) = None

-- VALUES. A valuation gives every field and every line a value; it has the shape of a packet.
abbrev pub value : Packet → Source → ℕ
value p (Field i) = slice_index p.fields i
value p (Made n) = slice_index p.lines n
value p (Constant w) = w

-- every value is a word
pub record Words (p : Packet) : Type 0 where
  pub fields : (i : ℕ) → Word (slice_index p.fields i)
  pub lines : (n : ℕ) → Word (slice_index p.lines n)

module _ (plus minus : ℕ → ℕ → ℕ) where
  -- what a line makes of the values that it reads
  abbrev pub makes : Packet → ℕ → Line → ℕ
  makes p old (Read s) = old
  makes p old (Copy a) = value p a
  makes p old (Add a b) = plus (value p a) (value p b)
  makes p old (Sub a b) = minus (value p a) (value p b)
  makes p old (Less a b) = less_than (value p a) (value p b)
  makes p old (Equal a b) = equal_to (value p a) (value p b)
  makes p old (Choose c a b) = chosen (value p c) (value p a) (value p b)
  makes p old (Write s a) = value p a

  -- the valuation satisfies the codelet's lines: each inner line has the value that it makes, the read line the old word
  pub record Satisfies (cod : Codelet) (old : ℕ) (p : Packet) : Type 0 where
    pub inner : (n : ℕ) → is_inner cod n ≡ true → slice_index p.lines n ≡ makes p old (line_at cod n)
    pub reads : get_or p.lines cod.read 0 ≡ old
