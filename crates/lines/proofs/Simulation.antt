-- The serial run of the statements and the lines worked out one after another go together. Assumes nothing.
use Rattle.std.proofs.Common.{◌≡◌, ℕ, ◌-◌, ◌<◌, ◌≤◌, Bool, true, false, cond, not, ◌&&◌, ◌||◌, ◌⊎◌, List, [], ◌∷◌, ◌++◌, length, get_or, set, Some, sym, refl, ap, ◌∙◌, subst, ap₂, inl, inr, zero-add, arith, length-set, get_or-set_other, get_or-set_same}
use lib.Seq.{set-get_or}
use Rattle.std.specs.List.{AllByRecursion}
use Rattle.std.proofs.lemmas.List.{length_push}
use Rattle.std.proofs.lemmas.Bool.{and_parts, both_ways, cases_eq, eq-eqb, ltb-true, or_left, or_right}
use Rattle.word.specs.Words.{truth, less_than, equal_to, chosen}
use Rattle.transaction.specs.declared.statement.Operand.{Operand}
use Rattle.transaction.specs.declared.statement.Operand.TheVariants.{Field, State, Constant}
use Rattle.transaction.specs.declared.statement.Target.{Target}
use Rattle.transaction.specs.declared.statement.Target.TheVariants.{Field as ToField, State as ToState}
use Rattle.transaction.specs.declared.statement.Statement.{Statement}
use Rattle.transaction.specs.declared.statement.Statement.TheVariants.{Copy, Add, Sub, Less, Equal, Choose, If, Else, End}
use Rattle.transaction.specs.declared.frame.Frame.{Frame}
use Rattle.transaction.specs.Statements.{target_operand}
use Rattle.transaction.specs.Frames.{turned, outer}
use Rattle.transaction.specs.WellFormed.{has, has_target, has_all, within}
use Rattle.meaning.specs.Serial as serial
use Rattle.meaning.specs.Serial.{Values, Context, values, context, operand_in, stored, taken, live, step, run}
use Rattle.lines.specs.declared.line.Source.{Source}
use Rattle.lines.specs.declared.line.Source.TheVariants.{Line as Made, Constant as Fixed}
use Rattle.lines.specs.declared.line.Line.{Line}
use Rattle.lines.specs.declared.line.Line.TheVariants.{Read, Copy as LCopy, Add as LAdd, Sub as LSub, Less as LLess, Equal as LEqual, Choose as LChoose}
use Rattle.lines.specs.Named.{is_state, names, some_names}
use Rattle.lines.specs.Build.{Latest, Draft, source_of, renewed, last, choose_for, guarded, assigned, nesting, adds, adds_all, read_lines, start, numbered}
use Rattle.lines.specs.Layout.{sources_of, is_plain}
use Rattle.lines.specs.Work.{value_of, makes, worked}
use Rattle.lines.proofs.Sources.{Under, under_up}
use Rattle.lines.proofs.Order.{ConditionsUnder, conditions_up, Low, up_one, assigned_low, adds_low}
use Rattle.lines.proofs.Working.{is, stays, new_is, satisfied}
use Rattle.lines.proofs.Places.{first_is, number_in, number_at, reads_long, firsts_long, incoming_at, start_low}

-- a table of sources and the values that it stands for, after both are written
table_set : (val : Source → ℕ) (t : List Source) (ns : List ℕ) (i j : ℕ) (y : Source) (x : ℕ) → i < length t → i < length ns → val y ≡ x → val (get_or t j (Fixed 0)) ≡ get_or ns j 0 → val (get_or (set t i y) j (Fixed 0)) ≡ get_or (set ns i x) j 0
table_set val t ns i j y x h k e f = go (cases_eq j i)
  where
    go : (j ≡ i) ⊎ (j ≡ i → ⊥) → val (get_or (set t i y) j (Fixed 0)) ≡ get_or (set ns i x) j 0
    go (inl q) = rw (q, get_or-set_same t i y (Fixed 0) h, get_or-set_same ns i x 0 k) e
    go (inr q) = rw (get_or-set_other t i j y (Fixed 0) q, get_or-set_other ns i j x 0 q) f

-- where an assignment does not act it writes what was there
kept_same : (t : Target) (w : Values) → w ≡ stored t (operand_in w (target_operand t)) w
kept_same (ToField i) w = ap (λ (l : List ℕ). values l w.words) (sym (set-get_or w.fields i 0))
kept_same (ToState s) w = ap (λ (l : List ℕ). values w.fields l) (sym (set-get_or w.words s 0))

assign_is : (t : Target) (x : ℕ) (frames : List (Frame Bool)) (w : Values) → serial.assigned (Some (t, x)) frames w ≡ stored t (cond (live frames) x (operand_in w (target_operand t))) w
assign_is t x frames w = elim (live frames) as (λ b. cond b (stored t x w) w ≡ stored t (cond b x (operand_in w (target_operand t))) w) [ true ↦ refl | false ↦ kept_same t w ]

cond_twice : (u b : Bool) (x o : ℕ) → cond b (cond u x o) o ≡ cond (u && b) x o
cond_twice true b x o = refl
cond_twice false true x o = refl
cond_twice false false x o = refl

cond_not : (b : Bool) (x y : ℕ) → cond b y x ≡ cond (not b) x y
cond_not true x y = refl
cond_not false x y = refl

target_has : (f s : ℕ) (t : Target) → has f s (target_operand t) ≡ has_target f s t
target_has f s (ToField i) = refl
target_has f s (ToState k) = refl

module _ (plus minus : ℕ → ℕ → ℕ) (v : Values) where
  abbrev val : List Line → Source → ℕ
  val ls a = is plus minus v ls a

  last_is : (ls : List Line) (l : Line) → val (ls ++ (l ∷ [])) (last (ls ++ (l ∷ []))) ≡ makes plus minus v (worked plus minus v ls) l
  last_is ls l =
      let e : length (ls ++ (l ∷ [])) - 1 ≡ length ls = omega (arith, length_push ls l) in
      ap (λ (n : ℕ). val (ls ++ (l ∷ [])) (Made n)) e ∙ new_is plus minus v ls l

  -- the open ifs of the two
  abbrev Frames : List Line → List (Frame Source) → List (Frame Bool) → Type 0
  Frames ls [] [] = Unit {0}
  Frames ls [] (b ∷ bs) = ⊥
  Frames ls (f ∷ fs) [] = ⊥
  Frames ls (f ∷ fs) (b ∷ bs) = (truth (val ls f.on) ≡ b.on) × (f.second ≡ b.second) × Frames ls fs bs

  frames_stay : (ls ls' : List Line) → ((a : Source) → Under (length ls) a → val ls' a ≡ val ls a) → (fs : List (Frame Source)) (bs : List (Frame Bool)) → ConditionsUnder (length ls) fs → Frames ls fs bs → Frames ls' fs bs
  frames_stay ls ls' k [] [] w f = tt
  frames_stay ls ls' k [] (b ∷ bs) w f = f
  frames_stay ls ls' k (g ∷ fs) [] w f = f
  frames_stay ls ls' k (g ∷ fs) (b ∷ bs) w f = (ap truth (k g.on w.0) ∙ f.0, f.1, frames_stay ls ls' k fs bs w.1 f.2)

  choose_is : (vs : List ℕ) (f : Frame Source) (b : Frame Bool) (new old : Source) → truth (value_of v.fields vs f.on) ≡ b.on → f.second ≡ b.second → makes plus minus v vs (choose_for f new old) ≡ cond (taken b) (value_of v.fields vs new) (value_of v.fields vs old)
  choose_is vs f b new old e q = go f.second b.on e ∙ ap (λ (u : Bool). cond (cond u (not b.on) b.on) (value_of v.fields vs new) (value_of v.fields vs old)) q
    where
      go : (u y : Bool) → truth (value_of v.fields vs f.on) ≡ y → makes plus minus v vs (cond u (LChoose f.on old new) (LChoose f.on new old)) ≡ cond (cond u (not y) y) (value_of v.fields vs new) (value_of v.fields vs old)
      go true y r = ap (λ (t : Bool). cond t (value_of v.fields vs old) (value_of v.fields vs new)) r ∙ cond_not y (value_of v.fields vs new) (value_of v.fields vs old)
      go false y r = ap (λ (t : Bool). cond t (value_of v.fields vs new) (value_of v.fields vs old)) r

  guarded_stays : (fs : List (Frame Source)) (old : Source) (ls : List Line) (a : Source) → Under (length ls) a → val (guarded fs old ls) a ≡ val ls a
  guarded_stays [] old ls a u = refl
  guarded_stays (f ∷ fs) old ls a u =
      let l : Line = choose_for f (last ls) old in
      guarded_stays fs old (ls ++ (l ∷ [])) a (under_up _ _ a (omega (arith, length_push ls l)) u) ∙ stays plus minus v ls l a u

  -- the last choose line has the new value where the assignment acts, and otherwise the old one
  guarded_is : (fs : List (Frame Source)) (bs : List (Frame Bool)) (old : Source) (ls : List Line) (x o : ℕ) → 0 < length ls → ConditionsUnder (length ls) fs → Under (length ls) old → Frames ls fs bs → val ls old ≡ o → val ls (last ls) ≡ x → val (guarded fs old ls) (last (guarded fs old ls)) ≡ cond (live bs) x o
  guarded_is [] [] old ls x o h w k f e q = q
  guarded_is [] (b ∷ bs) old ls x o h w k f e q = absurd f
  guarded_is (g ∷ fs) [] old ls x o h w k f e q = absurd f
  guarded_is (g ∷ fs) (b ∷ bs) old ls x o h w k f e q =
      let l : Line = choose_for g (last ls) old in
      let up : length ls ≤ length (ls ++ (l ∷ [])) = omega (arith, length_push ls l) in
      let new : val (ls ++ (l ∷ [])) (last (ls ++ (l ∷ []))) ≡ cond (taken b) x o = last_is ls l ∙ choose_is (worked plus minus v ls) g b (last ls) old f.0 f.1 ∙ ap₂ (cond (taken b)) q e in
      guarded_is fs bs old (ls ++ (l ∷ [])) (cond (taken b) x o) o (omega arith) (conditions_up _ _ fs up w.1) (under_up _ _ old up k) (frames_stay ls (ls ++ (l ∷ [])) (stays plus minus v ls l) fs bs w.1 f.2) (stays plus minus v ls l old k ∙ e) new
      ∙ cond_twice (taken b) (live bs) x o

  module _ (N : List Bool) (few : length v.fields ≤ 16) (fewer : length v.words ≤ 8) where
    -- what a statement may name
    abbrev pub Uses : Operand → Type 0
    Uses (Field i) = i < length v.fields
    Uses (State s) = (s < length v.words) × (get_or N s false ≡ true)
    Uses (Constant c) = Unit {0}

    -- the latest values stand for what the run holds
    pub record Sim (d : Draft) (h : Context) : Type 0 where
      pub low : Low (read_lines N) d
      pub agrees : (a : Operand) → Uses a → val d.lines (source_of d.latest a) ≡ operand_in h.values a
      pub kept : (s : ℕ) → get_or N s false ≡ false → get_or h.values.words s 0 ≡ get_or v.words s 0
      pub frames : Frames d.lines d.nest h.nest
      pub fields_long : length h.values.fields ≡ length v.fields
      pub words_long : length h.values.words ≡ length v.words
      pub finals_long : length d.latest.fields ≡ 16
      pub updates_long : length d.latest.states ≡ 8

    record Stored (t : Target) (y : Source) (x : ℕ) (ls : List Line) (l : Latest) (w : Values) : Type 0 where
      agrees : (a : Operand) → Uses a → val ls (source_of (renewed t y l) a) ≡ operand_in (stored t x w) a
      kept : (s : ℕ) → get_or N s false ≡ false → get_or (stored t x w).words s 0 ≡ get_or v.words s 0
      fields_long : length (stored t x w).fields ≡ length v.fields
      words_long : length (stored t x w).words ≡ length v.words
      finals_long : length (renewed t y l).fields ≡ 16
      updates_long : length (renewed t y l).states ≡ 8

    stores : (t : Target) (y : Source) (x : ℕ) (ls : List Line) (d : Draft) (h : Context) → Sim d h → Uses (target_operand t) → ((a : Operand) → Uses a → val ls (source_of d.latest a) ≡ operand_in h.values a) → val ls y ≡ x → Stored t y x ls d.latest h.values
    stores (ToField i) y x ls d h m u g e =
        record {
          agrees = agree;
          kept = m.kept;
          fields_long = length-set h.values.fields i x ∙ m.fields_long;
          words_long = m.words_long;
          finals_long = length-set d.latest.fields i y ∙ m.finals_long;
          updates_long = m.updates_long;
        }
      where
        agree : (a : Operand) → Uses a → val ls (source_of (renewed (ToField i) y d.latest) a) ≡ operand_in (stored (ToField i) x h.values) a
        agree (Field j) w = table_set (val ls) d.latest.fields h.values.fields i j y x (omega (arith, m.finals_long)) (omega (arith, m.fields_long)) e (g (Field j) w)
        agree (State s) w = g (State s) w
        agree (Constant c) w = refl
    stores (ToState i) y x ls d h m u g e =
        record {
          agrees = agree;
          kept = λ s n. get_or-set_other h.values.words i s x 0 (λ (same : s ≡ i). both_ways (get_or N i false) (ap (λ (j : ℕ). get_or N j false) (sym same) ∙ n) u.1) ∙ m.kept s n;
          fields_long = m.fields_long;
          words_long = length-set h.values.words i x ∙ m.words_long;
          finals_long = m.finals_long;
          updates_long = length-set d.latest.states i y ∙ m.updates_long;
        }
      where
        agree : (a : Operand) → Uses a → val ls (source_of (renewed (ToState i) y d.latest) a) ≡ operand_in (stored (ToState i) x h.values) a
        agree (Field j) w = g (Field j) w
        agree (State s) w = table_set (val ls) d.latest.states h.values.words i s y x (omega (arith, m.updates_long, u.0)) (omega (arith, m.words_long, u.0)) e (g (State s) w)
        agree (Constant c) w = refl

    assign_sim : (t : Target) (l : Line) (x : ℕ) (d : Draft) (h : Context) → Sim d h → AllByRecursion (Under (length d.lines)) (sources_of l) → is_plain l ≡ true → makes plus minus v (worked plus minus v d.lines) l ≡ x → Uses (target_operand t) → Sim (assigned t l d) (context (serial.assigned (Some (t, x)) h.nest h.values) h.nest)
    assign_sim t l x d h m w p e u =
        let old : Source = source_of d.latest (target_operand t) in
        let k : Under (length d.lines) old = m.low.latest (target_operand t) in
        let up : length d.lines ≤ length (d.lines ++ (l ∷ [])) = up_one (read_lines N) l old d in
        let ls : List Line = guarded d.nest old (d.lines ++ (l ∷ [])) in
        let o : ℕ = operand_in h.values (target_operand t) in
        let y : ℕ = cond (live h.nest) x o in
        let same : (a : Source) → Under (length d.lines) a → val ls a ≡ val d.lines a = λ a c. guarded_stays d.nest old (d.lines ++ (l ∷ [])) a (under_up _ _ a up c) ∙ stays plus minus v d.lines l a c in
        let made : val ls (last ls) ≡ y =
        guarded_is d.nest h.nest old (d.lines ++ (l ∷ [])) x o (omega (arith, length_push d.lines l)) (conditions_up _ _ d.nest up m.low.nest) (under_up _ _ old up k)
        (frames_stay d.lines (d.lines ++ (l ∷ [])) (stays plus minus v d.lines l) d.nest h.nest m.low.nest m.frames) (stays plus minus v d.lines l old k ∙ m.agrees (target_operand t) u) (last_is d.lines l ∙ e) in
        let s : Stored t (last ls) y ls d.latest h.values = stores t (last ls) y ls d h m u (λ a c. same (source_of d.latest a) (m.low.latest a) ∙ m.agrees a c) made in
        subst (λ (z : Values). Sim (assigned t l d) (context z h.nest)) (sym (assign_is t x h.nest h.values))
        (record {
          low = assigned_low (read_lines N) t l d m.low w p;
          agrees = s.agrees;
          kept = s.kept;
          frames = frames_stay d.lines ls same d.nest h.nest m.low.nest m.frames;
          fields_long = s.fields_long;
          words_long = s.words_long;
          finals_long = s.finals_long;
          updates_long = s.updates_long;
        })

    nesting_sim : (d : Draft) (h : Context) (fs : List (Frame Source)) (bs : List (Frame Bool)) → Sim d h → Low (read_lines N) (nesting fs d) → Frames d.lines fs bs → Sim (nesting fs d) (context h.values bs)
    nesting_sim d h fs bs m w f =
        record { low = w; agrees = m.agrees; kept = m.kept; frames = f; fields_long = m.fields_long; words_long = m.words_long; finals_long = m.finals_long; updates_long = m.updates_long }

    turned_frames : (ls : List Line) (fs : List (Frame Source)) (bs : List (Frame Bool)) → Frames ls fs bs → Frames ls (turned fs) (turned bs)
    turned_frames ls [] [] f = tt
    turned_frames ls [] (b ∷ bs) f = f
    turned_frames ls (g ∷ fs) [] f = f
    turned_frames ls (g ∷ fs) (b ∷ bs) f = (f.0, refl, f.2)

    outer_frames : (ls : List Line) (fs : List (Frame Source)) (bs : List (Frame Bool)) → Frames ls fs bs → Frames ls (outer fs) (outer bs)
    outer_frames ls [] [] f = tt
    outer_frames ls [] (b ∷ bs) f = absurd f
    outer_frames ls (g ∷ fs) [] f = absurd f
    outer_frames ls (g ∷ fs) (b ∷ bs) f = f.2

    -- what is there and is marked may be named
    abbrev Marked : (ℕ → Bool) → Type 0
    Marked p = (k : ℕ) → k < 8 → p k ≡ true → get_or N k false ≡ true

    uses : (a : Operand) → has (length v.fields) (length v.words) a ≡ true → Marked (λ (k : ℕ). is_state k a) → Uses a
    uses (Field i) e m = ltb-true i (length v.fields) e
    uses (State s) e m = let h : s < length v.words = ltb-true s (length v.words) e in (h, m s (omega arith) (eq-eqb s s refl))
    uses (Constant c) e m = tt

    to_uses : (t : Target) → has_target (length v.fields) (length v.words) t ≡ true → Marked (λ (k : ℕ). is_state k (target_operand t)) → Uses (target_operand t)
    to_uses t e m = uses (target_operand t) (target_has (length v.fields) (length v.words) t ∙ e) m

    first_of : (p q : ℕ → Bool) → Marked (λ (k : ℕ). p k || q k) → Marked p
    first_of p q m k h e = m k h (or_left (p k) (q k) e)

    second_of : (p q : ℕ → Bool) → Marked (λ (k : ℕ). p k || q k) → Marked q
    second_of p q m k h e = m k h (or_right (p k) (q k) e)

    abbrev Has : Operand → Bool
    Has a = has (length v.fields) (length v.words) a

    both : (a b : Operand) → (Has a && Has b) ≡ true → Marked (λ (k : ℕ). is_state k a || is_state k b) → Uses a × Uses b
    both a b e m =
        let p = and_parts (Has a) (Has b) e in
        (uses a p.0 (first_of (λ (k : ℕ). is_state k a) (λ (k : ℕ). is_state k b) m), uses b p.1 (second_of (λ (k : ℕ). is_state k a) (λ (k : ℕ). is_state k b) m))

    pair : (t : Target) (a b : Operand) → (has_target (length v.fields) (length v.words) t && (Has a && Has b)) ≡ true → Marked (λ (k : ℕ). is_state k (target_operand t) || (is_state k a || is_state k b)) → Uses (target_operand t) × Uses a × Uses b
    pair t a b e m =
        let p = and_parts (has_target (length v.fields) (length v.words) t) (Has a && Has b) e in
        let q = both a b p.1 (second_of (λ (k : ℕ). is_state k (target_operand t)) (λ (k : ℕ). is_state k a || is_state k b) m) in
        (to_uses t p.0 (first_of (λ (k : ℕ). is_state k (target_operand t)) (λ (k : ℕ). is_state k a || is_state k b) m), q.0, q.1)

    -- one statement
    step_sim : (x : Statement) (d : Draft) (h : Context) → Sim d h → has_all (length v.fields) (length v.words) x ≡ true → Marked (λ (k : ℕ). names k x) → Sim (adds x d) (step plus minus x h)
    step_sim (Copy t a) d h m e n =
        let p = and_parts (has_target (length v.fields) (length v.words) t) (Has a) e in
        let u : Uses (target_operand t) = to_uses t p.0 (first_of (λ (k : ℕ). is_state k (target_operand t)) (λ (k : ℕ). is_state k a) n) in
        let w : Uses a = uses a p.1 (second_of (λ (k : ℕ). is_state k (target_operand t)) (λ (k : ℕ). is_state k a) n) in
        assign_sim t (LCopy (source_of d.latest a)) _ d h m (m.low.latest a, tt) refl (m.agrees a w) u
    step_sim (Add t a b) d h m e n = let u = pair t a b e n in assign_sim t (LAdd (source_of d.latest a) (source_of d.latest b)) _ d h m (m.low.latest a, (m.low.latest b, tt)) refl (ap₂ plus (m.agrees a u.1) (m.agrees b u.2)) u.0
    step_sim (Sub t a b) d h m e n = let u = pair t a b e n in assign_sim t (LSub (source_of d.latest a) (source_of d.latest b)) _ d h m (m.low.latest a, (m.low.latest b, tt)) refl (ap₂ minus (m.agrees a u.1) (m.agrees b u.2)) u.0
    step_sim (Less t a b) d h m e n = let u = pair t a b e n in assign_sim t (LLess (source_of d.latest a) (source_of d.latest b)) _ d h m (m.low.latest a, (m.low.latest b, tt)) refl (ap₂ less_than (m.agrees a u.1) (m.agrees b u.2)) u.0
    step_sim (Equal t a b) d h m e n = let u = pair t a b e n in assign_sim t (LEqual (source_of d.latest a) (source_of d.latest b)) _ d h m (m.low.latest a, (m.low.latest b, tt)) refl (ap₂ equal_to (m.agrees a u.1) (m.agrees b u.2)) u.0
    step_sim (Choose t c a b) d h m e n =
        let F : ℕ = length v.fields in
        let S : ℕ = length v.words in
        let p = and_parts (has_target F S t) (Has c && (Has a && Has b)) e in
        let q = and_parts (Has c) (Has a && Has b) p.1 in
        let later : Marked (λ (k : ℕ). is_state k c || (is_state k a || is_state k b)) = second_of (λ (k : ℕ). is_state k (target_operand t)) (λ (k : ℕ). is_state k c || (is_state k a || is_state k b)) n in
        let u : Uses (target_operand t) = to_uses t p.0 (first_of (λ (k : ℕ). is_state k (target_operand t)) (λ (k : ℕ). is_state k c || (is_state k a || is_state k b)) n) in
        let w : Uses c = uses c q.0 (first_of (λ (k : ℕ). is_state k c) (λ (k : ℕ). is_state k a || is_state k b) later) in
        let z = both a b q.1 (second_of (λ (k : ℕ). is_state k c) (λ (k : ℕ). is_state k a || is_state k b) later) in
        assign_sim t (LChoose (source_of d.latest c) (source_of d.latest a) (source_of d.latest b)) _ d h m (m.low.latest c, (m.low.latest a, (m.low.latest b, tt))) refl
        (ap (λ (x : ℕ). chosen x (val d.lines (source_of d.latest a)) (val d.lines (source_of d.latest b))) (m.agrees c w) ∙ ap₂ (chosen (operand_in h.values c)) (m.agrees a z.0) (m.agrees b z.1)) u
    step_sim (If c) d h m e n = nesting_sim d h _ _ m (adds_low (read_lines N) (If c) d m.low) (ap truth (m.agrees c (uses c e n)), refl, m.frames)
    step_sim Else d h m e n = nesting_sim d h _ _ m (adds_low (read_lines N) Else d m.low) (turned_frames d.lines d.nest h.nest m.frames)
    step_sim End d h m e n = nesting_sim d h _ _ m (adds_low (read_lines N) End d m.low) (outer_frames d.lines d.nest h.nest m.frames)

    -- all of them
    pub run_sim : (xs : List Statement) (d : Draft) (h : Context) → Sim d h → within (length v.fields) (length v.words) xs ≡ true → Marked (λ (k : ℕ). some_names k xs) → Sim (adds_all xs d) (run plus minus xs h)
    run_sim [] d h m e n = m
    run_sim (x ∷ xs) d h m e n =
        let p = and_parts (has_all (length v.fields) (length v.words) x) (within (length v.fields) (length v.words) xs) e in
        run_sim xs (adds x d) (step plus minus x h) (step_sim x d h m p.0 (first_of (λ (k : ℕ). names k x) (λ (k : ℕ). some_names k xs) n)) p.1 (second_of (λ (k : ℕ). names k x) (λ (k : ℕ). some_names k xs) n)

    -- before the first
    pub start_sim : length N ≡ 8 → Sim (start N) (context v [])
    start_sim long =
        record {
          low = start_low N;
          agrees = agree;
          kept = λ s n. refl;
          frames = tt;
          fields_long = refl;
          words_long = refl;
          finals_long = refl;
          updates_long = firsts_long 0 N ∙ long;
        }
      where
        agree : (a : Operand) → Uses a → val (read_lines N) (source_of (start N).latest a) ≡ operand_in v a
        agree (Field i) u = ap (val (read_lines N)) (incoming_at i (omega arith))
        agree (State s) u =
            let n : ℕ = get_or (numbered 0 N) s 0 in
            ap (val (read_lines N)) (first_is 0 N s u.1)
            ∙ satisfied plus minus v (read_lines N) (start_low N).good.ordered n (omega (arith, reads_long N, (number_in 0 N s u.1).1))
            ∙ ap (makes plus minus v (worked plus minus v (read_lines N))) (number_at Read (Read 0) [] 0 N s u.1)
            ∙ ap (λ (k : ℕ). get_or v.words k 0) (zero-add s)
        agree (Constant c) u = refl
