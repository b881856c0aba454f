-- The constants that lines read are words, and so is every value. Assumes nothing.
use Rattle.std.proofs.Common.{◌≡◌, ℕ, zero, suc, ◌<◌, ◌≤◌, Bool, true, false, cond, ◌&&◌, eqb, ltb, ◌⊎◌, List, [], ◌∷◌, ◌++◌, map, length, get_or, sym, subst, inl, inr, arith}
use Rattle.std.specs.List.{All, AllByRecursion}
use Rattle.std.proofs.lemmas.List.{length_push, get_or_push, get_or_append_left, get_or_past}
use Rattle.std.proofs.lemmas.Bool.{and_parts, cases_lt, cases_eq, leb-true}
use Rattle.std.proofs.lemmas.List.Elements.{All-head, All-tail, All-push, All-append}
use Rattle.word.specs.Words.{Word, truth, bit}
use Rattle.transaction.specs.declared.statement.Operand.{Operand}
use Rattle.transaction.specs.declared.statement.Operand.TheVariants.{Field, State, Constant}
use Rattle.transaction.specs.declared.statement.Target.{Target}
use Rattle.transaction.specs.declared.statement.Target.TheVariants.{Field as ToField, State as ToState}
use Rattle.transaction.specs.declared.statement.Statement.{Statement}
use Rattle.transaction.specs.declared.statement.Statement.TheVariants.{Copy, Add, Sub, Less, Equal, Choose, If, Else, End}
use Rattle.transaction.specs.declared.frame.Frame.{Frame}
use Rattle.transaction.specs.Frames.{turned, outer}
use Rattle.transaction.specs.WellFormed.{has, has_target, has_all, within}
use Rattle.meaning.specs.Serial.{Values}
use Rattle.lines.specs.declared.line.Source.{Source}
use Rattle.lines.specs.declared.line.Source.TheVariants.{Field as Incoming, Line as Made, Constant as Fixed}
use Rattle.lines.specs.declared.line.Line.{Line}
use Rattle.lines.specs.declared.line.Line.TheVariants.{Read, Copy as LCopy, Add as LAdd, Sub as LSub, Less as LLess, Equal as LEqual, Choose as LChoose, Write}
use Rattle.lines.specs.Named.{up_from, states_from, named_of}
use Rattle.lines.specs.Build.{Draft, source_of, last, choose_for, guarded, assigned, nesting, adds, adds_all, firsts, write_line, start, body_of, lines_of}
use Rattle.lines.specs.Layout.{sources_of}
use Rattle.lines.specs.Work.{value_of, makes, worked_on}
use Rattle.lines.proofs.Order.{set_each}
use Rattle.lines.proofs.Places.{mapped}

abbrev pub Fits : Source → Type 0
Fits (Incoming i) = Unit {0}
Fits (Made n) = Unit {0}
Fits (Fixed c) = Word c

abbrev pub LineFits : Line → Type 0
LineFits l = AllByRecursion Fits (sources_of l)

pub record Fit (d : Draft) : Type 0 where
  pub fields : (i : ℕ) → Fits (get_or d.latest.fields i (Fixed 0))
  pub states : (s : ℕ) → Fits (get_or d.latest.states s (Fixed 0))
  pub nest : AllByRecursion (λ (f : Frame Source). Fits f.on) d.nest
  pub lines : All LineFits d.lines

guarded_fit : (frames : List (Frame Source)) (old : Source) (ls : List Line) → AllByRecursion (λ (f : Frame Source). Fits f.on) frames → Fits old → All LineFits ls → All LineFits (guarded frames old ls)
guarded_fit [] old ls c o w = w
guarded_fit (f ∷ frames) old ls c o w =
    let l : Line = choose_for f (last ls) old in
    let u : LineFits l = elim f.second as (λ t. LineFits (cond t (LChoose f.on old (last ls)) (LChoose f.on (last ls) old))) [ true ↦ (c.0, (o, (tt, tt))) | false ↦ (c.0, (tt, (o, tt))) ] in
    guarded_fit frames old (ls ++ (l ∷ [])) c.1 o (All-push LineFits ls l w u)

assigned_fit : (t : Target) (l : Line) (d : Draft) → Fit d → LineFits l → Fit (assigned t l d)
assigned_fit (ToField i) l d w u =
    record { fields = set_each Fits d.latest.fields i _ w.fields tt; states = w.states; nest = w.nest; lines = guarded_fit d.nest _ _ w.nest (w.fields i) (All-push LineFits d.lines l w.lines u) }
assigned_fit (ToState s) l d w u =
    record { fields = w.fields; states = set_each Fits d.latest.states s _ w.states tt; nest = w.nest; lines = guarded_fit d.nest _ _ w.nest (w.states s) (All-push LineFits d.lines l w.lines u) }

nesting_fit : (frames : List (Frame Source)) (d : Draft) → Fit d → AllByRecursion (λ (f : Frame Source). Fits f.on) frames → Fit (nesting frames d)
nesting_fit frames d w c = record { fields = w.fields; states = w.states; nest = c; lines = w.lines }

turned_fit : (frames : List (Frame Source)) → AllByRecursion (λ (f : Frame Source). Fits f.on) frames → AllByRecursion (λ (f : Frame Source). Fits f.on) (turned frames)
turned_fit [] c = tt
turned_fit (f ∷ frames) c = c

outer_fit : (frames : List (Frame Source)) → AllByRecursion (λ (f : Frame Source). Fits f.on) frames → AllByRecursion (λ (f : Frame Source). Fits f.on) (outer frames)
outer_fit [] c = tt
outer_fit (f ∷ frames) c = c.1

module _ (f s : ℕ) where
  source_fits : (a : Operand) (d : Draft) → Fit d → has f s a ≡ true → Fits (source_of d.latest a)
  source_fits (Field i) d w e = w.fields i
  source_fits (State k) d w e = w.states k
  source_fits (Constant c) d w e = let h : c ≤ 4294967295 = leb-true c 4294967295 e in omega arith

  pair_fits : (t : Target) (a b : Operand) (d : Draft) → Fit d → (has_target f s t && (has f s a && has f s b)) ≡ true → Fits (source_of d.latest a) × Fits (source_of d.latest b)
  pair_fits t a b d w e =
      let p = and_parts (has_target f s t) (has f s a && has f s b) e in
      let q = and_parts (has f s a) (has f s b) p.1 in
      (source_fits a d w q.0, source_fits b d w q.1)

  adds_fit : (x : Statement) (d : Draft) → Fit d → has_all f s x ≡ true → Fit (adds x d)
  adds_fit (Copy t a) d w e = assigned_fit t (LCopy (source_of d.latest a)) d w (source_fits a d w (and_parts (has_target f s t) (has f s a) e).1, tt)
  adds_fit (Add t a b) d w e = let u = pair_fits t a b d w e in assigned_fit t (LAdd (source_of d.latest a) (source_of d.latest b)) d w (u.0, (u.1, tt))
  adds_fit (Sub t a b) d w e = let u = pair_fits t a b d w e in assigned_fit t (LSub (source_of d.latest a) (source_of d.latest b)) d w (u.0, (u.1, tt))
  adds_fit (Less t a b) d w e = let u = pair_fits t a b d w e in assigned_fit t (LLess (source_of d.latest a) (source_of d.latest b)) d w (u.0, (u.1, tt))
  adds_fit (Equal t a b) d w e = let u = pair_fits t a b d w e in assigned_fit t (LEqual (source_of d.latest a) (source_of d.latest b)) d w (u.0, (u.1, tt))
  adds_fit (Choose t c a b) d w e =
      let p = and_parts (has_target f s t) (has f s c && (has f s a && has f s b)) e in
      let q = and_parts (has f s c) (has f s a && has f s b) p.1 in
      let r = and_parts (has f s a) (has f s b) q.1 in
      assigned_fit t (LChoose (source_of d.latest c) (source_of d.latest a) (source_of d.latest b)) d w (source_fits c d w q.0, (source_fits a d w r.0, (source_fits b d w r.1, tt)))
  adds_fit (If c) d w e = nesting_fit _ d w (source_fits c d w e, w.nest)
  adds_fit Else d w e = nesting_fit _ d w (turned_fit d.nest w.nest)
  adds_fit End d w e = nesting_fit _ d w (outer_fit d.nest w.nest)

  all_fit : (xs : List Statement) (d : Draft) → Fit d → within f s xs ≡ true → Fit (adds_all xs d)
  all_fit [] d w e = w
  all_fit (x ∷ xs) d w e = let p = and_parts (has_all f s x) (within f s xs) e in all_fit xs (adds x d) (adds_fit x d w p.0) p.1

start_fit : (ms : List Bool) → Fit (start ms)
start_fit ms = record { fields = λ i. come 16 0 i; states = λ s. firsts_fit 0 ms s; nest = tt; lines = mapped LineFits Read (states_from 0 ms) (λ s. tt) }
  where
    come : (n i j : ℕ) → Fits (get_or (map Incoming (up_from n i)) j (Fixed 0))
    come zero i j = omega arith
    come (suc n) i zero = tt
    come (suc n) i (suc j) = come n (suc i) j

    firsts_fit : (n : ℕ) (l : List Bool) (j : ℕ) → Fits (get_or (firsts n l) j (Fixed 0))
    firsts_fit n [] j = omega arith
    firsts_fit n (true ∷ l) zero = tt
    firsts_fit n (true ∷ l) (suc j) = firsts_fit (suc n) l j
    firsts_fit n (false ∷ l) zero = omega arith
    firsts_fit n (false ∷ l) (suc j) = firsts_fit n l j

pub body_fit : (f s : ℕ) (xs : List Statement) → within f s xs ≡ true → Fit (body_of xs)
body_fit f s xs e = all_fit f s xs (start (named_of xs)) (start_fit (named_of xs)) e

pub lines_fit : (f s : ℕ) (xs : List Statement) → within f s xs ≡ true → All LineFits (lines_of xs)
lines_fit f s xs e =
    let w : Fit (body_of xs) = body_fit f s xs e in
    All-append LineFits (body_of xs).lines _ w.lines (mapped LineFits (write_line (body_of xs).latest.states) (states_from 0 (named_of xs)) (λ k. (w.states k, tt)))

bit_word : (b : Bool) → Word (bit b)
bit_word true = omega arith
bit_word false = omega arith

module _ (plus minus : ℕ → ℕ → ℕ) (v : Values) (sums : (a b : ℕ) → Word a → Word b → Word (plus a b)) (differences : (a b : ℕ) → Word a → Word b → Word (minus a b)) (incoming : (i : ℕ) → Word (get_or v.fields i 0)) (met : (s : ℕ) → Word (get_or v.words s 0)) where
  abbrev Words : List ℕ → Type 0
  Words vs = (n : ℕ) → Word (get_or vs n 0)

  pub value_word : (vs : List ℕ) → Words vs → (a : Source) → Fits a → Word (value_of v.fields vs a)
  value_word vs w (Incoming i) u = incoming i
  value_word vs w (Made n) u = w n
  value_word vs w (Fixed c) u = u

  makes_word : (vs : List ℕ) → Words vs → (l : Line) → LineFits l → Word (makes plus minus v vs l)
  makes_word vs w (Read s) u = met s
  makes_word vs w (LCopy a) u = value_word vs w a u.0
  makes_word vs w (LAdd a b) u = sums _ _ (value_word vs w a u.0) (value_word vs w b u.1.0)
  makes_word vs w (LSub a b) u = differences _ _ (value_word vs w a u.0) (value_word vs w b u.1.0)
  makes_word vs w (LLess a b) u = bit_word (ltb (value_of v.fields vs a) (value_of v.fields vs b))
  makes_word vs w (LEqual a b) u = bit_word (eqb (value_of v.fields vs a) (value_of v.fields vs b))
  makes_word vs w (LChoose c a b) u = elim (truth (value_of v.fields vs c)) as (λ t. Word (cond t (value_of v.fields vs a) (value_of v.fields vs b))) [ true ↦ value_word vs w a u.1.0 | false ↦ value_word vs w b u.1.1.0 ]
  makes_word vs w (Write s a) u = value_word vs w a u.0

  push_word : (vs : List ℕ) (x : ℕ) → Words vs → Word x → Words (vs ++ (x ∷ []))
  push_word vs x w u n = go (cases_lt n (length vs))
    where
      late : (n ≡ length vs) ⊎ (n ≡ length vs → ⊥) → length vs ≤ n → Word (get_or (vs ++ (x ∷ [])) n 0)
      late (inl q) k = subst Word (sym (get_or_push vs x 0 n (sym q))) u
      late (inr q) k = subst Word (sym (get_or_past (vs ++ (x ∷ [])) n 0 (omega (arith, length_push vs x)))) (omega arith)

      go : (n < length vs) ⊎ (length vs ≤ n) → Word (get_or (vs ++ (x ∷ [])) n 0)
      go (inl k) = subst Word (sym (get_or_append_left vs (x ∷ []) 0 n k)) (w n)
      go (inr k) = late (cases_eq n (length vs)) k

  pub worked_words : (ls : List Line) (vs : List ℕ) → Words vs → All LineFits ls → Words (worked_on plus minus v ls vs)
  worked_words [] vs w u = w
  worked_words (l ∷ ls) vs w u = worked_words ls (vs ++ (makes plus minus v vs l ∷ [])) (push_word vs _ w (makes_word vs w l (All-head LineFits l ls u))) (All-tail LineFits l ls u)
