-- The numbers of read lines and of write lines. Assumes nothing.
use Rattle.std.proofs.Common.{◌≡◌, ℕ, zero, suc, ◌+◌, ◌<◌, ◌≤◌, Bool, true, false, List, [], ◌∷◌, ◌++◌, map, length, get_or, sym, refl, ap, ◌∙◌, append_assoc, append-nil, add-zero, zero-add, arith}
use Rattle.std.specs.List.{All}
use Rattle.std.proofs.lemmas.List.Elements.{All-nil, All-map}
use Rattle.std.proofs.lemmas.List.{length_push, get_or_push, get_or_append_left, get_or-map, length-map}
use Rattle.std.proofs.lemmas.Bool.{both_ways}
use Rattle.transaction.specs.declared.statement.Operand.{Operand}
use Rattle.transaction.specs.declared.statement.Operand.TheVariants.{Field, State, Constant}
use Rattle.lines.specs.declared.line.Source.TheVariants.{Field as Incoming, Line as Made, Constant as Fixed}
use Rattle.lines.specs.declared.line.Line.{Line}
use Rattle.lines.specs.declared.line.Line.TheVariants.{Read}
use Rattle.lines.specs.Named.{up_from, states_from, amount}
use Rattle.lines.specs.Build.{source_of, read_lines, firsts, start, numbered}
use Rattle.lines.specs.Layout.{reads_line, is_plain}
use Rattle.lines.proofs.Numbers.{up_at, up_long}
use Rattle.lines.proofs.Sources.{Under, under_up}
use Rattle.lines.proofs.Order.{Low}

pub states_long : (s : ℕ) (ms : List Bool) → length (states_from s ms) ≡ amount ms
states_long s [] = refl
states_long s (true ∷ ms) = ap suc (states_long (suc s) ms)
states_long s (false ∷ ms) = states_long (suc s) ms

-- what f gives is such for each number
pub mapped : {X : Type 0} (P : X → Type 0) (f : ℕ → X) (ns : List ℕ) → ((n : ℕ) → P (f n)) → All P (map f ns)
mapped P f ns h = All-map P f ns (λ k d _. h (get_or ns k d))

pub firsts_long : (n : ℕ) (ms : List Bool) → length (firsts n ms) ≡ length ms
firsts_long n [] = refl
firsts_long n (true ∷ ms) = ap suc (firsts_long (suc n) ms)
firsts_long n (false ∷ ms) = ap suc (firsts_long n ms)

-- a named state's number is among as many as are named
pub number_in : (n : ℕ) (ms : List Bool) (j : ℕ) → get_or ms j false ≡ true → (n ≤ get_or (numbered n ms) j 0) × (get_or (numbered n ms) j 0 < n + amount ms)
number_in n [] j e = absurd (both_ways false refl e)
number_in n (true ∷ ms) zero e = (omega arith, omega arith)
number_in n (true ∷ ms) (suc j) e = let p = number_in (suc n) ms j e in (omega (arith, p.0), omega (arith, p.1))
number_in n (false ∷ ms) zero e = absurd (both_ways false refl e)
number_in n (false ∷ ms) (suc j) e = number_in n ms j e

-- the numbers from n on are those from 0 on, moved
pub number_moved : (n k : ℕ) (ms : List Bool) (j : ℕ) → get_or ms j false ≡ true → get_or (numbered (n + k) ms) j 0 ≡ n + get_or (numbered k ms) j 0
number_moved n k [] j e = absurd (both_ways false refl e)
number_moved n k (true ∷ ms) zero e = refl
number_moved n k (true ∷ ms) (suc j) e = let q : suc (n + k) ≡ n + suc k = omega arith in ap (λ (m : ℕ). get_or (numbered m ms) j 0) q ∙ number_moved n (suc k) ms j e
number_moved n k (false ∷ ms) zero e = absurd (both_ways false refl e)
number_moved n k (false ∷ ms) (suc j) e = number_moved n k ms j e

-- what stands at a named state's number
pub number_at : {X : Type 0} (f : ℕ → X) (d : X) (before : List X) (s : ℕ) (ms : List Bool) (j : ℕ) → get_or ms j false ≡ true → get_or (before ++ map f (states_from s ms)) (get_or (numbered (length before) ms) j 0) d ≡ f (s + j)
number_at f d before s [] j e = absurd (both_ways false refl e)
number_at {X} f d before s (true ∷ ms) zero e =
    ap (λ (l : List X). get_or l (length before) d) (sym (append_assoc before (f s ∷ []) (map f (states_from (suc s) ms))))
    ∙ get_or_append_left (before ++ (f s ∷ [])) _ d (length before) (omega (arith, length_push before (f s)))
    ∙ get_or_push before (f s) d (length before) refl
    ∙ ap f (sym (add-zero s))
number_at {X} f d before s (true ∷ ms) (suc j) e =
    let q : suc (length before) ≡ length (before ++ (f s ∷ [])) = omega (arith, length_push before (f s)) in
    let r : suc s + j ≡ s + suc j = omega arith in
    ap (λ (l : List X). get_or l (get_or (numbered (suc (length before)) ms) j 0) d) (sym (append_assoc before (f s ∷ []) (map f (states_from (suc s) ms))))
    ∙ ap (λ (k : ℕ). get_or ((before ++ (f s ∷ [])) ++ map f (states_from (suc s) ms)) (get_or (numbered k ms) j 0) d) q
    ∙ number_at f d (before ++ (f s ∷ [])) (suc s) ms j e
    ∙ ap f r
number_at f d before s (false ∷ ms) zero e = absurd (both_ways false refl e)
number_at f d before s (false ∷ ms) (suc j) e = let r : suc s + j ≡ s + suc j = omega arith in number_at f d before (suc s) ms j e ∙ ap f r

pub first_is : (n : ℕ) (ms : List Bool) (j : ℕ) → get_or ms j false ≡ true → get_or (firsts n ms) j (Fixed 0) ≡ Made (get_or (numbered n ms) j 0)
first_is n [] j e = absurd (both_ways false refl e)
first_is n (true ∷ ms) zero e = refl
first_is n (true ∷ ms) (suc j) e = first_is (suc n) ms j e
first_is n (false ∷ ms) zero e = absurd (both_ways false refl e)
first_is n (false ∷ ms) (suc j) e = first_is n ms j e

first_under : (n : ℕ) (ms : List Bool) (j : ℕ) → Under (n + amount ms) (get_or (firsts n ms) j (Fixed 0))
first_under n [] j = tt
first_under n (true ∷ ms) zero = omega arith
first_under n (true ∷ ms) (suc j) = let q : suc n + amount ms ≤ n + suc (amount ms) = omega arith in under_up _ _ (get_or (firsts (suc n) ms) j (Fixed 0)) q (first_under (suc n) ms j)
first_under n (false ∷ ms) zero = tt
first_under n (false ∷ ms) (suc j) = first_under n ms j

incoming_under : (n i j k : ℕ) → Under k (get_or (map Incoming (up_from n i)) j (Fixed 0))
incoming_under zero i j k = tt
incoming_under (suc n) i zero k = tt
incoming_under (suc n) i (suc j) k = incoming_under n (suc i) j k

pub incoming_at : (j : ℕ) → j < 16 → get_or (map Incoming (up_from 16 0)) j (Fixed 0) ≡ Incoming j
incoming_at j h = get_or-map Incoming (up_from 16 0) j 0 (Fixed 0) (omega (arith, up_long 16 0)) ∙ ap (λ (k : ℕ). Incoming k) (up_at 16 0 j 0 h ∙ zero-add j)

read_nothing : (ns : List ℕ) (n m : ℕ) → reads_line m (get_or (map Read ns) n (Read 0)) ≡ false
read_nothing [] n m = refl
read_nothing (s ∷ ns) zero m = refl
read_nothing (s ∷ ns) (suc n) m = read_nothing ns n m

pub reads_long : (ms : List Bool) → length (read_lines ms) ≡ amount ms
reads_long ms = length-map (states_from 0 ms) Read ∙ states_long 0 ms

pub start_low : (ms : List Bool) → Low (read_lines ms) (start ms)
start_low ms =
    record {
      good = record { ordered = λ n m h e. absurd (both_ways _ (read_nothing (states_from 0 ms) n m) e); rest = []; front = sym (append-nil (read_lines ms)); plain = All-nil (λ (l : Line). is_plain l ≡ true) };
      latest = under;
      nest = tt;
    }
  where
    under : (a : Operand) → Under (length (read_lines ms)) (source_of (start ms).latest a)
    under (Field i) = incoming_under 16 0 i (length (read_lines ms))
    under (State s) = under_up _ _ (get_or (firsts 0 ms) s (Fixed 0)) (omega (arith, reads_long ms)) (first_under 0 ms s)
    under (Constant c) = tt
