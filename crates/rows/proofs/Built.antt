-- Lines built by hand: what the ghost fields say, by tests that compute. Assumes nothing.
use Rattle.std.proofs.Common.{◌≡◌, ℕ, zero, suc, ◌+◌, ◌-◌, ◌<◌, Bool, true, false, ◌&&◌, ltb, List, [], ◌∷◌, ◌++◌, length, get_or, drop, replicate, sym, refl, ap, ◌∙◌, subst, ⊎_elim, arith, lit≤, get_or-drop}
use Rattle.std.proofs.lemmas.Bool.{both_ways, and_parts, or_cases, eqb-true, ltb-true}
use Rattle.lines.specs.declared.line.Source.{Source}
use Rattle.lines.specs.declared.line.Source.TheVariants.{Field, Line as Made, Constant as Fixed}
use Rattle.lines.specs.declared.line.Line.{Line}
use Rattle.lines.specs.declared.line.Line.TheVariants.{Read}
use Rattle.lines.specs.declared.lines.Lines.{Lines}
use Rattle.lines.specs.Named.{any_of}
use Rattle.lines.specs.Layout.{sources_of, is_line, reads_line, is_plain, Ordered, ReadsBelow, Below, Plain}
use Rattle.rows.specs.Rows.{row_of}
use Rattle.rows.specs.Samples.{sampling, chained, crossed, SamplesStand}

abbrev source_below : ℕ → Source → Bool
source_below w (Field i) = true
source_below w (Made m) = ltb m w
source_below w (Fixed c) = true

abbrev all_below : ℕ → List Source → Bool
all_below w [] = true
all_below w (x ∷ xs) = source_below w x && all_below w xs

one_below : (w m : ℕ) (x : Source) → source_below w x ≡ true → is_line m x ≡ true → m < w
one_below w m (Field i) t e = absurd (both_ways _ refl e)
one_below w m (Made k) t e = let q = eqb-true k m e in let lt = ltb-true k w t in omega arith
one_below w m (Fixed c) t e = absurd (both_ways _ refl e)

any_below : (w m : ℕ) (l : List Source) → all_below w l ≡ true → any_of (is_line m) l ≡ true → m < w
any_below w m [] t e = absurd (both_ways _ refl e)
any_below w m (x ∷ xs) t e = let (a, b) = and_parts (source_below w x) _ t in ⊎_elim (one_below w m x a) (any_below w m xs b) (or_cases (is_line m x) _ e)

at_below : (w : ℕ) (l : List Source) → all_below w l ≡ true → Below w l
at_below w [] t i m e = absurd (both_ways _ refl e)
at_below w (x ∷ xs) t zero m e = one_below w m x (and_parts (source_below w x) _ t).0 e
at_below w (x ∷ xs) t (suc i) m e = at_below w xs (and_parts (source_below w x) _ t).1 i m e

-- from line i on every line reads only lower lines
abbrev in_order : ℕ → List Line → Bool
in_order i [] = true
in_order i (l ∷ ls) = all_below i (sources_of l) && in_order (suc i) ls

in_order_lem : (i : ℕ) (ls : List Line) → in_order i ls ≡ true → (n m : ℕ) → n < length ls → reads_line m (get_or ls n (Read 0)) ≡ true → m < i + n
in_order_lem i [] t n m h e = absurd (omega arith)
in_order_lem i (l ∷ ls) t zero m h e = let q = any_below i m (sources_of l) (and_parts (all_below i (sources_of l)) _ t).0 e in omega arith
in_order_lem i (l ∷ ls) t (suc n) m h e = let q = in_order_lem (suc i) ls (and_parts (all_below i (sources_of l)) _ t).1 n m (omega arith) e in omega arith

pub ordered : (ls : List Line) → in_order 0 ls ≡ true → Ordered ls
ordered ls t n m h e = let q = in_order_lem 0 ls t n m h e in omega arith

abbrev lines_below : ℕ → List Line → Bool
lines_below w [] = true
lines_below w (l ∷ ls) = all_below w (sources_of l) && lines_below w ls

reads_below : (w : ℕ) (ls : List Line) → lines_below w ls ≡ true → ReadsBelow w ls
reads_below w [] t n m h e = absurd (omega arith)
reads_below w (l ∷ ls) t zero m h e = any_below w m (sources_of l) (and_parts (all_below w (sources_of l)) _ t).0 e
reads_below w (l ∷ ls) t (suc n) m h e = reads_below w ls (and_parts (all_below w (sources_of l)) _ t).1 n m (omega arith) e

-- k lines are plain
abbrev all_plain : ℕ → List Line → Bool
all_plain zero ls = true
all_plain (suc k) [] = false
all_plain (suc k) (l ∷ ls) = is_plain l && all_plain k ls

plain_from : (k : ℕ) (ls : List Line) → all_plain k ls ≡ true → (i : ℕ) → i < k → is_plain (get_or ls i (Read 0)) ≡ true
plain_from zero ls t i h = absurd (omega arith)
plain_from (suc k) [] t i h = absurd (both_ways _ refl t)
plain_from (suc k) (l ∷ ls) t zero h = (and_parts (is_plain l) _ t).0
plain_from (suc k) (l ∷ ls) t (suc i) h = plain_from k ls (and_parts (is_plain l) _ t).1 i (omega arith)

pub plain : (a w : ℕ) (ls : List Line) → all_plain (w - a) (drop a ls) ≡ true → Plain a w ls
plain a w ls t k le lt = let q : a + (k - a) ≡ k = omega arith in subst (λ i. is_plain (get_or ls i (Read 0)) ≡ true) q (ap is_plain (sym (get_or-drop a ls (k - a) (Read 0))) ∙ plain_from (w - a) (drop a ls) t (k - a) (omega arith))

abbrev one_state : List Bool
one_state = true ∷ (false ∷ (false ∷ (false ∷ (false ∷ (false ∷ (false ∷ (false ∷ [])))))))

abbrev two_states : List Bool
two_states = true ∷ (true ∷ (false ∷ (false ∷ (false ∷ (false ∷ (false ∷ (false ∷ [])))))))

-- a table of 208 lines
abbrev table : ℕ → List Line → List Line
table rest ls = ls ++ replicate rest (Read 0)

sampling_lines : Lines
sampling_lines = record {
  lines = table 197 sampling;
  count = 11;
  named = one_state;
  finals = Made 7 ∷ (Made 1 ∷ replicate 14 (Fixed 0));
  updates = Made 9 ∷ replicate 7 (Fixed 0);
  reads = 0 ∷ replicate 7 1;
  writes = 10 ∷ replicate 7 11;
  few = lit≤ tt;
  lines_long = refl;
  named_long = refl;
  finals_long = refl;
  updates_long = refl;
  reads_at = refl;
  writes_at = refl;
  room = lit≤ tt;
  reads_first = refl;
  writes_last = refl;
  plain = plain 1 10 (table 197 sampling) refl;
  ordered = ordered sampling refl;
  lines_below = reads_below 10 sampling refl;
  finals_below = at_below 10 (Made 7 ∷ (Made 1 ∷ replicate 14 (Fixed 0))) refl;
  updates_below = at_below 10 (Made 9 ∷ replicate 7 (Fixed 0)) refl;
}

chained_lines : Lines
chained_lines = record {
  lines = table 202 chained;
  count = 6;
  named = two_states;
  finals = replicate 16 (Fixed 0);
  updates = Made 2 ∷ (Made 3 ∷ replicate 6 (Fixed 0));
  reads = 0 ∷ (1 ∷ replicate 6 2);
  writes = 4 ∷ (5 ∷ replicate 6 6);
  few = lit≤ tt;
  lines_long = refl;
  named_long = refl;
  finals_long = refl;
  updates_long = refl;
  reads_at = refl;
  writes_at = refl;
  room = lit≤ tt;
  reads_first = refl;
  writes_last = refl;
  plain = plain 2 4 (table 202 chained) refl;
  ordered = ordered chained refl;
  lines_below = reads_below 4 chained refl;
  finals_below = at_below 4 (replicate 16 (Fixed 0)) refl;
  updates_below = at_below 4 (Made 2 ∷ (Made 3 ∷ replicate 6 (Fixed 0))) refl;
}

crossed_lines : Lines
crossed_lines = record {
  lines = table 201 crossed;
  count = 7;
  named = two_states;
  finals = Made 2 ∷ replicate 15 (Fixed 0);
  updates = Made 3 ∷ (Made 4 ∷ replicate 6 (Fixed 0));
  reads = 0 ∷ (1 ∷ replicate 6 2);
  writes = 5 ∷ (6 ∷ replicate 6 7);
  few = lit≤ tt;
  lines_long = refl;
  named_long = refl;
  finals_long = refl;
  updates_long = refl;
  reads_at = refl;
  writes_at = refl;
  room = lit≤ tt;
  reads_first = refl;
  writes_last = refl;
  plain = plain 2 5 (table 201 crossed) refl;
  ordered = ordered crossed refl;
  lines_below = reads_below 5 crossed refl;
  finals_below = at_below 5 (Made 2 ∷ replicate 15 (Fixed 0)) refl;
  updates_below = at_below 5 (Made 3 ∷ (Made 4 ∷ replicate 6 (Fixed 0))) refl;
}

pub samples_stand : SamplesStand
unfolding row_of sampling_lines chained_lines crossed_lines
samples_stand = (
  (sampling_lines, record { lines = refl; finals = refl; codelet = refl; alone = refl; echoes = refl; nodes = refl; rows = refl }),
  (chained_lines, record { lines = refl; alone = refl; nodes = refl; rows = refl }),
  (crossed_lines, record { lines = refl; shared = refl }),
)
