-- Resolving changes no value where the decided conditions hold. Assumes nothing.
use Rattle.std.proofs.Common.{◌≡◌, ℕ, Bool, true, false, cond, List, get_or, Some, None, Option, sym, refl, ap, ◌∙◌}
use Rattle.word.specs.Words.{truth}
use Rattle.lines.specs.declared.line.Source.{Source}
use Rattle.lines.specs.declared.line.Source.TheVariants.{Field, Line as Made, Constant}
use Rattle.lines.specs.declared.line.Line.{Line}
use Rattle.lines.specs.declared.line.Line.TheVariants.{Read, Copy, Add, Sub, Less, Equal, Choose, Write}
use Rattle.resolving.specs.declared.codelet.Codelet.{Codelet}
use Rattle.resolving.specs.declared.decided.Decided.{Decided}
use Rattle.resolving.specs.declared.packet.Packet.{Packet}
use Rattle.resolving.specs.Codelets.{line_at, is_inner, value, makes, Satisfies}
use Rattle.resolving.specs.Resolving.{found, arm, through, resolved_line, table, resolved_to, KeepsValues}
use Rattle.resolving.specs.Sameness.{decided_as, Agrees, Holds}
use Rattle.resolving.proofs.Tables.{table_each}

-- a table has, for each line, a source of that line's value
abbrev Keeping : Packet → List Source → Type 0
Keeping p t = (m : ℕ) → value p (get_or t m (Made m)) ≡ get_or p.lines m 0

found_keeps : (p : Packet) (t : List Source) → Keeping p t → (a : Source) → value p (found t a) ≡ value p a
found_keeps p t k (Field i) = refl
found_keeps p t k (Made n) = k n
found_keeps p t k (Constant w) = refl

-- a decided condition picks the arm that has the value
arm_keeps : (p : Packet) (o : Option Bool) (a b itself : Source) (x v : ℕ) → Agrees o x → v ≡ cond (truth x) (value p a) (value p b) → v ≡ value p itself → value p (arm o a b itself) ≡ v
arm_keeps p None a b itself x v h e f = sym f
arm_keeps p (Some true) a b itself x v h e f = sym (e ∙ ap (λ t. cond t (value p a) (value p b)) h)
arm_keeps p (Some false) a b itself x v h e f = sym (e ∙ ap (λ t. cond t (value p a) (value p b)) h)

module _ (cod : Codelet) (d : Decided) (plus minus : ℕ → ℕ → ℕ) (old : ℕ) (p : Packet) (s : Satisfies plus minus cod old p) (holds : Holds d p) where
  through_keeps : (t : List Source) → Keeping p t → (n : ℕ) (l : Line) → get_or p.lines n 0 ≡ makes plus minus p old l → value p (through d t n l) ≡ get_or p.lines n 0
  through_keeps t k n (Read q) e = refl
  through_keeps t k n (Copy a) e = found_keeps p t k a ∙ sym e
  through_keeps t k n (Add a b) e = refl
  through_keeps t k n (Sub a b) e = refl
  through_keeps t k n (Less a b) e = refl
  through_keeps t k n (Equal a b) e = refl
  through_keeps t k n (Choose c a b) e =
      let x = value p (found t c) in
      let e' : get_or p.lines n 0 ≡ cond (truth x) (value p (found t a)) (value p (found t b)) =
      e ∙ sym (rw (found_keeps p t k a, found_keeps p t k b, found_keeps p t k c) refl) in
      arm_keeps p (decided_as d (found t c)) (found t a) (found t b) (Made n) x (get_or p.lines n 0) (holds (found t c)) e' refl
  through_keeps t k n (Write q a) e = refl

  line_keeps : (t : List Source) → Keeping p t → (n : ℕ) → value p (resolved_line cod d t n) ≡ get_or p.lines n 0
  line_keeps t k n = go (is_inner cod n) refl
    where
      go : (b : Bool) → is_inner cod n ≡ b → value p (cond b (through d t n (line_at cod n)) (Made n)) ≡ get_or p.lines n 0
      go true e = through_keeps t k n (line_at cod n) (s.inner n e)
      go false e = refl

  table_keeps : (n : ℕ) → Keeping p (table cod d n)
  table_keeps = table_each (λ m a. value p a ≡ get_or p.lines m 0) (λ m. refl) cod d line_keeps

  resolved_keeps : (a : Source) → value p (resolved_to cod d a) ≡ value p a
  resolved_keeps a = found_keeps p (table cod d 208) (table_keeps 208) a

pub keeps_values : (cod : Codelet) (d : Decided) → KeepsValues cod d (resolved_to cod d)
keeps_values cod d = λ plus minus old p s holds a. resolved_keeps cod d plus minus old p s holds a
