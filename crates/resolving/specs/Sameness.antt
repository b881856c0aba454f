-- When two values are the same, and which conditions are decided. Assumes nothing.
use Rattle.std.specs.Prelude.{◌≡◌, ℕ, Bool, false, cond, length, replicate, Some, None, Option, ◌==◌, nat_lt, slice_index_or, slice_set}
use Rattle.word.specs.Words.{truth}
use Rattle.lines.specs.declared.line.Source.{Source}
use Rattle.lines.specs.declared.line.Source.TheVariants.{Field, Line as Made, Constant}
use Rattle.resolving.specs.declared.decided.Decided.{Decided}
use Rattle.resolving.specs.declared.packet.Packet.{Packet}
use Rattle.resolving.specs.Codelets.{value}

-- the same line, the same incoming field or equal constants
abbrev pub same : Source → Source → Bool
same (Field i) (Field j) = i == j
same (Field i) (Made n) = false
same (Field i) (Constant w) = false
same (Made n) (Field j) = false
same (Made n) (Made m) = n == m
same (Made n) (Constant w) = false
same (Constant w) (Field j) = false
same (Constant w) (Made n) = false
same (Constant w) (Constant x) = w == x

-- what a resolved condition is decided as: a constant decides itself
abbrev pub decided_as : Decided → Source → Option Bool
decided_as d (Field i) = slice_index_or d.fields i None
decided_as d (Made n) = slice_index_or d.lines n None
decided_as d (Constant w) = Some (truth w)

-- no condition is decided
unfoldable pub undecided : Decided
undecided = record { lines = replicate 208 None; fields = replicate 16 None }

-- one condition more is decided
abbrev pub decide : Decided → Source → Bool → Decided
decide d (Field i) b = record { lines = d.lines; fields = slice_set d.fields i (Some b) }
decide d (Made n) b = record { lines = slice_set d.lines n (Some b); fields = d.fields }
decide d (Constant w) b = d

-- a condition that can be decided: not a constant, and one that the tables have
abbrev pub is_open : Decided → Source → Bool
is_open d (Field i) = nat_lt i (length d.fields)
is_open d (Made n) = nat_lt n (length d.lines)
is_open d (Constant w) = false

-- from d to e the values that are the same as c became decided as b, and no others
abbrev pub Decides : Decided → Source → Bool → Decided → Type 0
Decides d c b e = (x : Source) → decided_as e x ≡ cond (same c x) (Some b) (decided_as d x)

-- a value is as it was decided
abbrev pub Agrees : Option Bool → ℕ → Type 0
Agrees None v = Unit {0}
Agrees (Some b) v = truth v ≡ b

-- the decided conditions hold
abbrev pub Holds : Decided → Packet → Type 0
Holds d p = (c : Source) → Agrees (decided_as d c) (value p c)

-- whatever the values are, no decided condition fails
abbrev pub HoldsOfAll : Decided → Type 0
HoldsOfAll d = (p : Packet) → Holds d p
