-- What holds of every source that a codelet's lines read holds of what it resolves to. Assumes nothing.
use Rattle.std.proofs.Common.{◌≡◌, ℕ, Bool, true, false, cond, List, get_or, Some, None, Option, refl}
use Rattle.lines.specs.declared.line.Source.{Source}
use Rattle.lines.specs.declared.line.Source.TheVariants.{Field, Line as Made, Constant}
use Rattle.lines.specs.declared.line.Line.{Line}
use Rattle.lines.specs.declared.line.Line.TheVariants.{Read, Copy, Add, Sub, Less, Equal, Choose, Write}
use Rattle.resolving.specs.declared.codelet.Codelet.{Codelet}
use Rattle.resolving.specs.declared.decided.Decided.{Decided}
use Rattle.resolving.specs.Codelets.{line_at, is_inner}
use Rattle.lines.specs.Layout.{sources_of}
use Rattle.resolving.specs.Resolving.{found, arm, through, resolved_line, table, resolved_to}
use Rattle.resolving.specs.Sameness.{decided_as}
use Rattle.resolving.proofs.Tables.{table_each}
use Rattle.atoms.specs.Rightness.{Each}

module _ (cod : Codelet) (d : Decided) (P : Source → Type 0) (inner : (n : ℕ) → is_inner cod n ≡ true → Each P (sources_of (line_at cod n))) where
  abbrev Reaching : List Source → Type 0
  Reaching t = (m : ℕ) → P (Made m) → P (get_or t m (Made m))

  found_reaches : (t : List Source) → Reaching t → (a : Source) → P a → P (found t a)
  found_reaches t k (Field i) h = h
  found_reaches t k (Made n) h = k n h
  found_reaches t k (Constant w) h = h

  arm_reaches : (o : Option Bool) (a b itself : Source) → P a → P b → P itself → P (arm o a b itself)
  arm_reaches None a b itself x y z = z
  arm_reaches (Some true) a b itself x y z = x
  arm_reaches (Some false) a b itself x y z = y

  through_reaches : (t : List Source) → Reaching t → (n : ℕ) (l : Line) → Each P (sources_of l) → P (Made n) → P (through d t n l)
  through_reaches t k n (Read s) e h = h
  through_reaches t k n (Copy a) e h = found_reaches t k a e.0
  through_reaches t k n (Add a b) e h = h
  through_reaches t k n (Sub a b) e h = h
  through_reaches t k n (Less a b) e h = h
  through_reaches t k n (Equal a b) e h = h
  through_reaches t k n (Choose c a b) e h =
      arm_reaches (decided_as d (found t c)) (found t a) (found t b) (Made n) (found_reaches t k a e.1.0) (found_reaches t k b e.1.1.0) h
  through_reaches t k n (Write s a) e h = h

  line_reaches : (t : List Source) → Reaching t → (n : ℕ) → P (Made n) → P (resolved_line cod d t n)
  line_reaches t k n h = go (is_inner cod n) (inner n)
    where
      go : (b : Bool) → (b ≡ true → Each P (sources_of (line_at cod n))) → P (cond b (through d t n (line_at cod n)) (Made n))
      go true e = through_reaches t k n (line_at cod n) (e refl) h
      go false e = h

  table_reaches : (n : ℕ) → Reaching (table cod d n)
  table_reaches = table_each (λ m a. P (Made m) → P a) (λ m h. h) cod d (λ t k n. line_reaches t k n)

  pub resolved_reaches : (a : Source) → P a → P (resolved_to cod d a)
  resolved_reaches a h = found_reaches (table cod d 208) (table_reaches 208) a h
