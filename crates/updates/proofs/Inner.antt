-- The inner lines of a codelet read only lines before them. Assumes nothing.
use Rattle.std.proofs.Common.{◌≡◌, ℕ, zero, suc, ◌+◌, ◌<◌, Bool, true, false, List, [], ◌∷◌, map, length, get_or, take, sym, refl, subst, zero-add, arith, length-take-le}
use Rattle.std.proofs.lemmas.List.{get_or-take}
use Rattle.std.proofs.lemmas.Bool.{false≢true, and_from, or_left, or_right, lt-ltb, eq-eqb}
use Rattle.lines.specs.declared.line.Source.{Source}
use Rattle.lines.specs.declared.line.Source.TheVariants.{Field, Line as Made, Constant}
use Rattle.lines.specs.declared.line.Line.{Line}
use Rattle.lines.specs.declared.line.Line.TheVariants.{Read}
use Rattle.lines.specs.declared.lines.Lines.{Lines}
use Rattle.lines.specs.Named.{any_of}
use Rattle.lines.specs.Layout.{sources_of, is_line, reads_line}
use Rattle.resolving.specs.Reads.{is_before, are_before, lower_from}
use Rattle.resolving.proofs.Before.{lower_from_lem}
use Rattle.std.specs.List.{range_with_len}
use Rattle.codelets.specs.Codelets.{in_codelet}
use Rattle.codelets.proofs.Paths.{in_below}

-- a source that is no line from n on
source_before : (n : ℕ) (a : Source) → ((m : ℕ) → is_line m a ≡ true → m < n) → is_before n a ≡ true
source_before n (Field i) h = refl
source_before n (Made m) h = lt-ltb m n (h m (eq-eqb m m refl))
source_before n (Constant w) h = refl

all_before : (n : ℕ) (reads : List Source) → ((m : ℕ) → any_of (is_line m) reads ≡ true → m < n) → are_before n reads ≡ true
all_before n [] h = refl
all_before n (a ∷ reads) h =
    and_from _ _ (source_before n a (λ m e. h m (or_left _ _ e))) (all_before n reads (λ m e. h m (or_right _ _ e)))

-- what a table of tests holds
marked : (p : ℕ → Bool) (k i n : ℕ) → get_or (map p (range_with_len i k)) n false ≡ true → p (i + n) ≡ true
marked p zero i n e = absurd (false≢true e)
marked p (suc k) i zero e = let q : i + 0 ≡ i = omega arith in rw q e
marked p (suc k) i (suc n) e = let q : i + suc n ≡ (i + 1) + n = omega arith in rw q (marked p k (i + 1) n e)

pub inner_lower : (r : Lines) (s : ℕ) (p : ℕ → Bool) → ((n : ℕ) → p n ≡ true → in_codelet r s n ≡ true) → lower_from 0 r.lines (map p (range_with_len 0 208)) ≡ true
inner_lower r s p h = lower_from_lem 0 r.lines (map p (range_with_len 0 208)) each
  where
    each : (n : ℕ) → get_or (map p (range_with_len 0 208)) n false ≡ true → are_before (0 + n) (sources_of (get_or r.lines n (Read 0))) ≡ true
    each n e =
        let low : n < r.count = in_below r s n (h n (rw zero-add at (marked p 208 0 n e))) in
        let long : length (take r.count r.lines) ≡ r.count = length-take-le r.count r.lines (omega (arith, r.few, r.lines_long)) in
        let same : get_or (take r.count r.lines) n (Read 0) ≡ get_or r.lines n (Read 0) = get_or-take r.count r.lines n (Read 0) low in
        rw zero-add (all_before n (sources_of (get_or r.lines n (Read 0))) (λ m q. r.ordered n m (omega arith) (subst (λ (l : Line). reads_line m l ≡ true) (sym same) q)))
