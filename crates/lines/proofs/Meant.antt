-- Lines leave what the statements leave. Assumes nothing.
use Rattle.std.proofs.Common.{◌≡◌, ℕ, zero, suc, ◌<◌, ◌≤◌, Bool, true, false, cond, ◌⊎◌, List, [], ◌∷◌, map, length, get_or, take, sym, refl, ap, ◌∙◌, subst, ap₂, inl, inr, arith, length-take-le, ext_get_or}
use Rattle.std.specs.List.{All}
use Rattle.std.proofs.lemmas.List.{length-map, get_or-map, get_or-take}
use Rattle.std.proofs.lemmas.Bool.{cases_Bool, cond-true, cond-false}
use Rattle.word.specs.Words.{Word}
use Rattle.transaction.specs.declared.statement.Operand.{Operand}
use Rattle.transaction.specs.declared.statement.Operand.TheVariants.{Field, State}
use Rattle.transaction.specs.declared.statement.Statement.{Statement}
use Rattle.transaction.specs.declared.transaction.Transaction.{Transaction}
use Rattle.transaction.specs.Programs.{statements_of}
use Rattle.transaction.specs.WellFormed.{within}
use Rattle.meaning.specs.Serial.{Values, values, context, alone, run}
use Rattle.lines.specs.declared.line.Source.{Source}
use Rattle.lines.specs.declared.line.Source.TheVariants.{Constant as Fixed}
use Rattle.lines.specs.declared.line.Line.{Line}
use Rattle.lines.specs.declared.line.Line.TheVariants.{Read}
use Rattle.lines.specs.declared.lines.Lines.{Lines}
use Rattle.lines.specs.Named.{named_of}
use Rattle.lines.specs.Build.{source_of, start, body_of, updates_of, write_lines, numbered}
use Rattle.lines.specs.Work.{value_of, makes}
use Rattle.lines.specs.Exact.{Exactly, NamedThere, InOrder}
use Rattle.lines.specs.Meaning.{words_left, worked_out, Means, KeepsMeaning, EachMakes, MakesWords}
use Rattle.lines.proofs.Working.{is, stays_all, satisfied, only}
use Rattle.lines.proofs.Constants.{Fits, LineFits, Fit, body_fit, lines_fit, value_word, worked_words}
use Rattle.lines.proofs.Finish.{mark, marked_named, named_long}
use Rattle.lines.proofs.InOrder.{in_order}
use Rattle.lines.proofs.Naming.{named_there}
use Rattle.lines.proofs.Simulation.{Sim, run_sim, start_sim}

pub numbered_long : (n : ℕ) (ms : List Bool) → length (numbered n ms) ≡ length ms
numbered_long n [] = refl
numbered_long n (true ∷ ms) = ap suc (numbered_long (suc n) ms)
numbered_long n (false ∷ ms) = ap suc (numbered_long n ms)

left_long : (vs : List ℕ) (ms : List Bool) (ns ws : List ℕ) → length (words_left vs ms ns ws) ≡ length ws
left_long vs ms ns [] = refl
left_long vs [] ns (w ∷ ws) = refl
left_long vs (m ∷ ms) [] (w ∷ ws) = refl
left_long vs (m ∷ ms) (n ∷ ns) (w ∷ ws) = ap suc (left_long vs ms ns ws)

left_at : (vs : List ℕ) (ms : List Bool) (ns ws : List ℕ) (s : ℕ) → length ws ≤ length ms → length ms ≡ length ns → s < length ws → get_or (words_left vs ms ns ws) s 0 ≡ cond (get_or ms s false) (get_or vs (get_or ns s 0) 0) (get_or ws s 0)
left_at vs ms ns [] s h k l = absurd (omega arith)
left_at vs [] ns (w ∷ ws) s h k l = absurd (omega arith)
left_at vs (m ∷ ms) [] (w ∷ ws) s h k l = absurd (omega arith)
left_at vs (m ∷ ms) (n ∷ ns) (w ∷ ws) zero h k l = refl
left_at vs (m ∷ ms) (n ∷ ns) (w ∷ ws) (suc s) h k l = left_at vs ms ns ws s (omega arith) (omega arith) (omega arith)

module _ (plus minus : ℕ → ℕ → ℕ) (v : Values) (xs : List Statement) (few : length v.fields ≤ 16) (fewer : length v.words ≤ 8) (there : within (length v.fields) (length v.words) xs ≡ true) where
  sim : Sim plus minus v (named_of xs) few fewer (body_of xs) (run plus minus xs (context v []))
  sim = run_sim plus minus v (named_of xs) few fewer xs (start (named_of xs)) (context v []) (start_sim plus minus v (named_of xs) few fewer (named_long xs)) there (λ k h e. mark xs k h ∙ e)

  -- a latest value has the same value among all lines
  module _ (r : Lines) (e : Exactly xs r) where
    abbrev vs : List ℕ
    vs = worked_out plus minus r v

    value : (a : Operand) → value_of v.fields vs (source_of (body_of xs).latest a) ≡ is plus minus v (body_of xs).lines (source_of (body_of xs).latest a)
    value a =
        ap (λ (ls : List Line). is plus minus v ls (source_of (body_of xs).latest a)) e.lines
        ∙ stays_all plus minus v (body_of xs).lines (write_lines (named_of xs) (updates_of xs)) (source_of (body_of xs).latest a) (sim.low.latest a)

    fields : (i : ℕ) → i < length v.fields → value_of v.fields vs (get_or r.finals i (Fixed 0)) ≡ get_or (alone plus minus xs v).fields i 0
    fields i h = ap (λ (l : List Source). value_of v.fields vs (get_or l i (Fixed 0))) e.finals ∙ value (Field i) ∙ sim.agrees (Field i) h

    words : (s : ℕ) → get_or r.named s false ≡ true → get_or vs (get_or r.writes s 0) 0 ≡ get_or (alone plus minus xs v).words s 0
    words s n =
        let k : ℕ = get_or r.writes s 0 in
        let n' : get_or (named_of xs) s false ≡ true = ap (λ (l : List Bool). get_or l s false) (sym e.named) ∙ n in
        let h : s < length v.words = named_there (length v.fields) (length v.words) s xs there (marked_named xs s n') in
        let o : InOrder r = in_order r in
        let inside : k < r.count = o.last s n in
        let long : length (take r.count r.lines) ≡ r.count = length-take-le r.count r.lines (omega (arith, r.few, r.lines_long)) in
        satisfied plus minus v (take r.count r.lines) r.ordered k (omega arith)
        ∙ ap (makes plus minus v vs) (get_or-take r.count r.lines k (Read 0) inside ∙ o.write s n)
        ∙ ap (λ (l : List Source). value_of v.fields vs (get_or l s (Fixed 0))) e.updates
        ∙ value (State s)
        ∙ sim.agrees (State s) (h, n')

    unnamed : (s : ℕ) → get_or r.named s false ≡ false → get_or (alone plus minus xs v).words s 0 ≡ get_or v.words s 0
    unnamed s n = sim.kept s (ap (λ (l : List Bool). get_or l s false) (sym e.named) ∙ n)

    abbrev ends : List ℕ
    ends = map (value_of v.fields vs) (take (length v.fields) r.finals)

    first_few : length (take (length v.fields) r.finals) ≡ length v.fields
    first_few = length-take-le (length v.fields) r.finals (omega (arith, r.finals_long))

    ends_long : length ends ≡ length v.fields
    ends_long = length-map (take (length v.fields) r.finals) (value_of v.fields vs) ∙ first_few

    ends_at : (i : ℕ) → i < length v.fields → get_or ends i 0 ≡ get_or (alone plus minus xs v).fields i 0
    ends_at i h =
        get_or-map (value_of v.fields vs) (take (length v.fields) r.finals) i (Fixed 0) 0 (omega (arith, first_few))
        ∙ ap (value_of v.fields vs) (get_or-take (length v.fields) r.finals i (Fixed 0) h)
        ∙ fields i h

    abbrev left : List ℕ
    left = words_left vs r.named r.writes v.words

    writes_long : length r.named ≡ length r.writes
    writes_long = sym (ap length r.writes_at ∙ numbered_long _ r.named)

    left_is : (s : ℕ) → s < length v.words → get_or left s 0 ≡ get_or (alone plus minus xs v).words s 0
    left_is s h = left_at vs r.named r.writes v.words s (omega (arith, r.named_long)) writes_long h ∙ go (cases_Bool (get_or r.named s false))
      where
        go : (get_or r.named s false ≡ true) ⊎ (get_or r.named s false ≡ false) → cond (get_or r.named s false) (get_or vs (get_or r.writes s 0) 0) (get_or v.words s 0) ≡ get_or (alone plus minus xs v).words s 0
        go (inl n) = cond-true (get_or r.named s false) _ _ n ∙ words s n
        go (inr n) = cond-false (get_or r.named s false) _ _ n ∙ sym (unnamed s n)

    pub means : Means plus minus r v xs
    means =
        record {
          same =
              ap₂ values
              (ext_get_or 0 ends (alone plus minus xs v).fields (ends_long ∙ sym sim.fields_long) (λ i h. ends_at i (omega (arith, ends_long))))
              (ext_get_or 0 left (alone plus minus xs v).words (left_long vs r.named r.writes v.words ∙ sym sim.words_long) (λ s h. left_is s (omega (arith, left_long vs r.named r.writes v.words))));
          fields = fields;
          words = words;
          unnamed = unnamed;
        }

pub keeps_meaning : (t : Transaction) (r : Lines) → Exactly (statements_of t) r → KeepsMeaning t r
keeps_meaning t r e plus minus v f s =
    let there : within (length v.fields) (length v.words) (statements_of t) ≡ true = ap₂ (λ (a b : ℕ). within a b (statements_of t)) f s ∙ t.in_place in
    means plus minus v (statements_of t) (omega (arith, t.few_fields)) (omega (arith, t.few_states)) there r e

pub states_there : (t : Transaction) (r : Lines) → Exactly (statements_of t) r → NamedThere t r
states_there t r e s n = named_there t.fields t.states s (statements_of t) t.in_place (marked_named (statements_of t) s (ap (λ (l : List Bool). get_or l s false) (sym e.named) ∙ n))

pub makes_words : (t : Transaction) (r : Lines) → Exactly (statements_of t) r → MakesWords r
makes_words t r e plus minus v sums differences incoming met =
    let fit : Fit (body_of (statements_of t)) = body_fit t.fields t.states (statements_of t) t.in_place in
    let all : All LineFits (take r.count r.lines) = subst (All LineFits) (sym e.lines) (lines_fit t.fields t.states (statements_of t) t.in_place) in
    let made : (n : ℕ) → Word (get_or (worked_out plus minus r v) n 0) = worked_words plus minus v sums differences incoming met (take r.count r.lines) [] (λ n. omega arith) all in
    record { lines = made; finals = λ i. value_word plus minus v sums differences incoming met (worked_out plus minus r v) made _ (subst (λ (l : List Source). Fits (get_or l i (Fixed 0))) (sym e.finals) (fit.fields i)) }

pub each_makes : (r : Lines) → EachMakes r
each_makes r =
    record {
      satisfied = λ plus minus v. satisfied plus minus v (take r.count r.lines) r.ordered;
      only = λ plus minus v vs s n h. only plus minus v (take r.count r.lines) vs r.ordered s (suc n) n (omega arith) (omega (arith, length-take-le r.count r.lines (omega (arith, r.few, r.lines_long))));
    }
