-- What lines read. Assumes nothing.
use Rattle.std.proofs.Common.{◌≡◌, ℕ, ◌<◌, ◌≤◌, true, false, ◌⊎◌, List, [], ◌∷◌, ◌++◌, length, sym, refl, ap, ◌∙◌, inl, inr, ⊎_elim, arith}
use Rattle.std.specs.List.{AllByRecursion}
use Rattle.std.proofs.lemmas.List.{length_push, get_or_push, get_or_append_left}
use Rattle.std.proofs.lemmas.Bool.{both_ways, or_cases, or_left, or_right, eqb-true, eq-eqb, cases_lt}
use Rattle.lines.specs.declared.line.Source.{Source}
use Rattle.lines.specs.declared.line.Source.TheVariants.{Field as Incoming, Line as Made, Constant as Fixed}
use Rattle.lines.specs.declared.line.Line.{Line}
use Rattle.lines.specs.declared.line.Line.TheVariants.{Read}
use Rattle.lines.specs.Named.{any_of}
use Rattle.lines.specs.Layout.{sources_of, is_line, reads_line, Ordered}

-- not a line from line n on
abbrev pub Under : ℕ → Source → Type 0
Under n (Incoming i) = Unit {0}
Under n (Made m) = m < n
Under n (Fixed c) = Unit {0}

pub under_up : (n m : ℕ) (a : Source) → n ≤ m → Under n a → Under m a
under_up n m (Incoming i) h u = tt
under_up n m (Made k) h u = omega arith
under_up n m (Fixed c) h u = tt

pub all_up : (n m : ℕ) (l : List Source) → n ≤ m → AllByRecursion (Under n) l → AllByRecursion (Under m) l
all_up n m [] h u = tt
all_up n m (a ∷ l) h u = (under_up n m a h u.0, all_up n m l h u.1)

-- the two ways to say it
pub under_from : (n : ℕ) (a : Source) → ((m : ℕ) → is_line m a ≡ true → m < n) → Under n a
under_from n (Incoming i) h = tt
under_from n (Made k) h = h k (eq-eqb k k refl)
under_from n (Fixed c) h = tt

pub under_is : (n : ℕ) (a : Source) → Under n a → (m : ℕ) → is_line m a ≡ true → m < n
under_is n (Incoming i) u m e = absurd (both_ways false refl e)
under_is n (Made k) u m e = let q : k ≡ m = eqb-true k m e in omega arith
under_is n (Fixed c) u m e = absurd (both_ways false refl e)

pub all_from : (n : ℕ) (l : List Source) → ((m : ℕ) → any_of (is_line m) l ≡ true → m < n) → AllByRecursion (Under n) l
all_from n [] h = tt
all_from n (a ∷ l) h = (under_from n a (λ m e. h m (or_left (is_line m a) _ e)), all_from n l (λ m e. h m (or_right (is_line m a) _ e)))

pub all_is : (n : ℕ) (l : List Source) → AllByRecursion (Under n) l → (m : ℕ) → any_of (is_line m) l ≡ true → m < n
all_is n [] u m e = absurd (both_ways false refl e)
all_is n (a ∷ l) u m e = ⊎_elim (under_is n a u.0 m) (all_is n l u.1 m) (or_cases (is_line m a) (any_of (is_line m) l) e)

pub ordered_push : (ls : List Line) (l : Line) → Ordered ls → AllByRecursion (Under (length ls)) (sources_of l) → Ordered (ls ++ (l ∷ []))
ordered_push ls l o u n m h e = go (cases_lt n (length ls))
  where
    go : (n < length ls) ⊎ (length ls ≤ n) → m < n
    go (inl k) = o n m k (ap (reads_line m) (sym (get_or_append_left ls (l ∷ []) (Read 0) n k)) ∙ e)
    go (inr k) =
        let q : length ls ≡ n = omega (arith, length_push ls l) in
        let r : m < length ls = all_is (length ls) (sources_of l) u m (ap (reads_line m) (sym (get_or_push ls l (Read 0) n q)) ∙ e) in
        omega arith
