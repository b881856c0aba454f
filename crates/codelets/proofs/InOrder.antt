-- Where read lines and write lines stand: what the ghost fields of lines come to. Assumes nothing.
use Rattle.std.proofs.Common.{◌≡◌, ℕ, zero, suc, ◌+◌, ◌-◌, ◌<◌, ◌≤◌, Bool, true, false, ◌⊎◌, List, [], ◌∷◌, map, length, get_or, take, sym, refl, ap, ◌∙◌, ap₂, inl, inr, ⊎_elim, zero-add, arith, length-take-le, get_or-drop}
use Rattle.std.proofs.lemmas.List.{get_or-take}
use Rattle.std.proofs.lemmas.Bool.{both_ways, cases_lt}
use Rattle.lines.specs.declared.line.Line.{Line}
use Rattle.lines.specs.declared.line.Line.TheVariants.{Read, Write}
use Rattle.lines.specs.declared.line.Source.TheVariants.{Constant as Fixed}
use Rattle.lines.specs.declared.lines.Lines.{Lines}
use Rattle.lines.specs.Named.{states_from, amount}
use Rattle.lines.specs.Build.{write_line, numbered}
use Rattle.lines.specs.Layout.{reads_line, is_plain}
use Rattle.lines.specs.Exact.{first_write}
use Rattle.line_graph.specs.Edges.{line_at, read_by}
use Rattle.codelets.specs.Codelets.{is_named, read_of, write_of}

-- how many are named before the j-th
abbrev place : List Bool → ℕ → ℕ
place [] j = 0
place (true ∷ ms) zero = 0
place (true ∷ ms) (suc j) = suc (place ms j)
place (false ∷ ms) zero = 0
place (false ∷ ms) (suc j) = place ms j

place_below : (ms : List Bool) (j : ℕ) → get_or ms j false ≡ true → place ms j < amount ms
place_below [] j e = absurd (both_ways false refl e)
place_below (true ∷ ms) zero e = omega arith
place_below (true ∷ ms) (suc j) e = omega (arith, place_below ms j e)
place_below (false ∷ ms) zero e = absurd (both_ways false refl e)
place_below (false ∷ ms) (suc j) e = place_below ms j e

place_number : (n : ℕ) (ms : List Bool) (j : ℕ) → get_or ms j false ≡ true → get_or (numbered n ms) j 0 ≡ n + place ms j
place_number n [] j e = absurd (both_ways false refl e)
place_number n (true ∷ ms) zero e = omega arith
place_number n (true ∷ ms) (suc j) e = omega (arith, place_number (suc n) ms j e)
place_number n (false ∷ ms) zero e = absurd (both_ways false refl e)
place_number n (false ∷ ms) (suc j) e = place_number n ms j e

place_at : {X : Type 0} (f : ℕ → X) (d : X) (s : ℕ) (ms : List Bool) (j : ℕ) → get_or ms j false ≡ true → get_or (map f (states_from s ms)) (place ms j) d ≡ f (s + j)
place_at f d s [] j e = absurd (both_ways false refl e)
place_at f d s (true ∷ ms) zero e = let q : s ≡ s + 0 = omega arith in ap f q
place_at f d s (true ∷ ms) (suc j) e = let q : suc s + j ≡ s + suc j = omega arith in place_at f d (suc s) ms j e ∙ ap f q
place_at f d s (false ∷ ms) zero e = absurd (both_ways false refl e)
place_at f d s (false ∷ ms) (suc j) e = let q : suc s + j ≡ s + suc j = omega arith in place_at f d (suc s) ms j e ∙ ap f q

-- each place is a named one's
place_of : (ms : List Bool) (i : ℕ) → i < amount ms → (j : ℕ) × (get_or ms j false ≡ true) × (place ms j ≡ i)
place_of [] i h = absurd (omega arith)
place_of (true ∷ ms) zero h = (0, refl, refl)
place_of (true ∷ ms) (suc i) h = let (j, e, q) = place_of ms i (omega arith) in (suc j, e, ap suc q)
place_of (false ∷ ms) i h = let (j, e, q) = place_of ms i h in (suc j, e, q)

module _ (r : Lines) where
  abbrev front : List Line
  front = take r.count r.lines

  front_long : length front ≡ r.count
  front_long = length-take-le r.count r.lines (omega (arith, r.few, r.lines_long))

  front_at : (n : ℕ) → n < r.count → get_or front n (Read 0) ≡ line_at r n
  front_at n h = get_or-take r.count r.lines n (Read 0) h

  -- every line reads only lower lines, and none reads a write line
  pub lower : (m n : ℕ) → n < r.count → read_by r m n ≡ true → m < n
  lower m n h e = r.ordered n m (omega (arith, front_long)) (ap (reads_line m) (front_at n h) ∙ e)

  pub unread : (m n : ℕ) → n < r.count → read_by r m n ≡ true → m < first_write r
  unread m n h e = r.lines_below n m (omega (arith, front_long)) (ap (reads_line m) (front_at n h) ∙ e)

  module _ (s : ℕ) (named : is_named r s ≡ true) where
    read_number : read_of r s ≡ place r.named s
    read_number = ap (λ (l : List ℕ). get_or l s 0) r.reads_at ∙ (place_number 0 r.named s named ∙ zero-add (place r.named s))

    write_number : write_of r s ≡ first_write r + place r.named s
    write_number = ap (λ (l : List ℕ). get_or l s 0) r.writes_at ∙ place_number (first_write r) r.named s named

    pub read_below : read_of r s < r.count
    read_below = omega (arith, read_number, place_below r.named s named, r.room)

    pub write_below : write_of r s < r.count
    write_below = omega (arith, write_number, place_below r.named s named, r.room)

    pub read_line : line_at r (read_of r s) ≡ Read s
    read_line =
        sym (get_or-take (amount r.named) r.lines (read_of r s) (Read 0) (omega (arith, read_number, place_below r.named s named)))
        ∙ (ap₂ (λ (l : List Line) (n : ℕ). get_or l n (Read 0)) r.reads_first read_number
        ∙ (place_at Read (Read 0) 0 r.named s named ∙ ap (λ (k : ℕ). Read k) (zero-add s)))

    pub write_line_lem : line_at r (write_of r s) ≡ Write s (get_or r.updates s (Fixed 0))
    write_line_lem =
        sym (front_at (write_of r s) write_below)
        ∙ (ap (λ (n : ℕ). get_or front n (Read 0)) write_number
        ∙ (sym (get_or-drop (first_write r) front (place r.named s) (Read 0))
        ∙ (ap (λ (l : List Line). get_or l (place r.named s) (Read 0)) r.writes_last
        ∙ (place_at (write_line r.updates) (Read 0) 0 r.named s named ∙ ap (write_line r.updates) (zero-add s)))))

  -- a line that is no write line is a named state's read line or plain
  pub unwritten : (n : ℕ) → n < first_write r → ((s : ℕ) × (is_named r s ≡ true) × (read_of r s ≡ n)) ⊎ (is_plain (line_at r n) ≡ true)
  unwritten n h = ⊎_elim (λ lt. let (s, e, q) = place_of r.named n lt in inl (s, e, read_number s e ∙ q)) (λ le. inr (r.plain n le h)) (cases_lt n (amount r.named))

  -- and a line from the first write line on is a named state's write line
  pub written : (n : ℕ) → first_write r ≤ n → n < r.count → (s : ℕ) × (is_named r s ≡ true) × (write_of r s ≡ n)
  written n le h = let (s, e, q) = place_of r.named (n - first_write r) (omega (arith, r.room)) in (s, e, omega (arith, write_number s e))
