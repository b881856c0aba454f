-- What a source resolves to. Assumes nothing.
use Rattle.std.specs.Prelude.{◌≡◌, ℕ, zero, suc, ◌<◌, Bool, true, false, cond, List, [], ◌∷◌, ◌++◌, Some, None, Option, slice_index_or}
use Rattle.lines.specs.declared.line.Source.{Source}
use Rattle.lines.specs.declared.line.Source.TheVariants.{Field, Line as Made, Constant}
use Rattle.lines.specs.declared.line.Line.{Line}
use Rattle.lines.specs.declared.line.Line.TheVariants.{Read, Copy, Add, Sub, Less, Equal, Choose, Write}
use Rattle.resolving.specs.declared.codelet.Codelet.{Codelet}
use Rattle.resolving.specs.declared.decided.Decided.{Decided}
use Rattle.resolving.specs.declared.packet.Packet.{Packet}
use Rattle.resolving.specs.Codelets.{line_at, is_inner, value, Satisfies}
use Rattle.resolving.specs.Reads.{is_before}
use Rattle.resolving.specs.Sameness.{decided_as, Holds}

-- THE RULES
-- lines at which resolving always stops
abbrev pub is_end : Line → Bool
is_end (Read s) = true
is_end (Copy a) = false
is_end (Add a b) = true
is_end (Sub a b) = true
is_end (Less a b) = true
is_end (Equal a b) = true
is_end (Choose c a b) = false
is_end (Write s a) = true

pub record Resolves (cod : Codelet) (d : Decided) (f : Source → Source) : Type 0 where
  -- it stops at a field, at a constant, at a line that is not inner and at an inner line other than a copy or a choose
  pub field : (i : ℕ) → f (Field i) ≡ Field i
  pub constant : (w : ℕ) → f (Constant w) ≡ Constant w
  pub outside : (n : ℕ) → is_inner cod n ≡ false → f (Made n) ≡ Made n
  pub end : (n : ℕ) → n < 208 → is_inner cod n ≡ true → is_end (line_at cod n) ≡ true → f (Made n) ≡ Made n
  -- it goes through an inner copy
  pub copy : (n : ℕ) (a : Source) → n < 208 → is_inner cod n ≡ true → line_at cod n ≡ Copy a → f (Made n) ≡ f a
  -- it goes through an inner choose whose condition, itself resolved, is decided, and stops where it is not
  pub first : (n : ℕ) (c a b : Source) → n < 208 → is_inner cod n ≡ true → line_at cod n ≡ Choose c a b → decided_as d (f c) ≡ Some true → f (Made n) ≡ f a
  pub second : (n : ℕ) (c a b : Source) → n < 208 → is_inner cod n ≡ true → line_at cod n ≡ Choose c a b → decided_as d (f c) ≡ Some false → f (Made n) ≡ f b
  pub undecided : (n : ℕ) (c a b : Source) → n < 208 → is_inner cod n ≡ true → line_at cod n ≡ Choose c a b → decided_as d (f c) ≡ None → f (Made n) ≡ Made n

-- every function that obeys the rules is f, at all sources that a transaction can have
abbrev pub Only : Codelet → Decided → (Source → Source) → Type 0
Only cod d f = (g : Source → Source) → Resolves cod d g → (a : Source) → is_before 208 a ≡ true → g a ≡ f a

-- where the decided conditions hold, f changes no value
abbrev pub KeepsValues : Codelet → Decided → (Source → Source) → Type 0
KeepsValues cod d f =
    (plus minus : ℕ → ℕ → ℕ) (old : ℕ) (p : Packet) → Satisfies plus minus cod old p → Holds d p → (a : Source) → value p (f a) ≡ value p a

-- THE TABLE, line by line upward
-- what a table of the lower lines has for a source
abbrev pub found : List Source → Source → Source
found lower (Field i) = Field i
found lower (Made n) = slice_index_or lower n (Made n)
found lower (Constant w) = Constant w

-- one arm where the condition is decided, else the line itself
abbrev pub arm : Option Bool → Source → Source → Source → Source
arm None a b itself = itself
arm (Some true) a b itself = a
arm (Some false) a b itself = b

abbrev pub through : Decided → List Source → ℕ → Line → Source
through d lower n (Read s) = Made n
through d lower n (Copy a) = found lower a
through d lower n (Add a b) = Made n
through d lower n (Sub a b) = Made n
through d lower n (Less a b) = Made n
through d lower n (Equal a b) = Made n
through d lower n (Choose c a b) = arm (decided_as d (found lower c)) (found lower a) (found lower b) (Made n)
through d lower n (Write s a) = Made n

abbrev pub resolved_line : Codelet → Decided → List Source → ℕ → Source
resolved_line cod d lower n = cond (is_inner cod n) (through d lower n (line_at cod n)) (Made n)

-- the first n lines resolved
unfoldable pub table : Codelet → Decided → ℕ → List Source
table cod d zero = []
table cod d (suc n) = table cod d n ++ (resolved_line cod d (table cod d n) n ∷ [])

abbrev pub resolved_to : Codelet → Decided → Source → Source
resolved_to cod d a = found (table cod d 208) a
