-- The lines of the statements follow the read lines, and each reads only lower lines. Assumes nothing.
use Rattle.std.proofs.Common.{◌≡◌, ℕ, zero, suc, ◌+◌, ◌<◌, ◌≤◌, true, false, cond, List, [], ◌∷◌, ◌++◌, length, get_or, set, sym, refl, ap, ◌∙◌, append_assoc, add-zero, arith}
use Rattle.std.specs.List.{AllByRecursion, AllPass}
use Rattle.std.proofs.lemmas.List.{length_push}
use Rattle.std.proofs.lemmas.List.Elements.{All-push}
use Rattle.transaction.specs.declared.statement.Operand.{Operand}
use Rattle.transaction.specs.declared.statement.Operand.TheVariants.{Field, State, Constant}
use Rattle.transaction.specs.declared.statement.Target.{Target}
use Rattle.transaction.specs.declared.statement.Target.TheVariants.{Field as ToField, State as ToState}
use Rattle.transaction.specs.declared.statement.Statement.{Statement}
use Rattle.transaction.specs.declared.statement.Statement.TheVariants.{Copy, Add, Sub, Less, Equal, Choose, If, Else, End}
use Rattle.transaction.specs.declared.frame.Frame.{Frame}
use Rattle.transaction.specs.Statements.{target_operand}
use Rattle.transaction.specs.Frames.{turned, outer}
use Rattle.lines.specs.declared.line.Source.{Source}
use Rattle.lines.specs.declared.line.Source.TheVariants.{Constant as Fixed}
use Rattle.lines.specs.declared.line.Line.{Line}
use Rattle.lines.specs.declared.line.Line.TheVariants.{Copy as LCopy, Add as LAdd, Sub as LSub, Less as LLess, Equal as LEqual, Choose as LChoose}
use Rattle.lines.specs.Build.{Latest, Draft, source_of, renewed, last, choose_for, guarded, assigned, nesting, adds, adds_all}
use Rattle.lines.specs.Layout.{sources_of, is_plain, Ordered}
use Rattle.lines.proofs.Sources.{Under, under_up, ordered_push}

abbrev pub ConditionsUnder : ℕ → List (Frame Source) → Type 0
ConditionsUnder n frames = AllByRecursion (λ (f : Frame Source). Under n f.on) frames

pub conditions_up : (n m : ℕ) (frames : List (Frame Source)) → n ≤ m → ConditionsUnder n frames → ConditionsUnder m frames
conditions_up n m [] h c = tt
conditions_up n m (f ∷ frames) h c = (under_up n m f.on h c.0, conditions_up n m frames h c.1)

pub guarded_long : (frames : List (Frame Source)) (old : Source) (ls : List Line) → length (guarded frames old ls) ≡ length ls + length frames
guarded_long [] old ls = sym (add-zero (length ls))
guarded_long (f ∷ frames) old ls = omega (arith, guarded_long frames old (ls ++ (choose_for f (last ls) old ∷ [])), length_push ls (choose_for f (last ls) old))

chooses_under : (n : ℕ) (f : Frame Source) (new old : Source) → Under n f.on → Under n new → Under n old → AllByRecursion (Under n) (sources_of (choose_for f new old))
chooses_under n f new old c x y = elim f.second as (λ t. AllByRecursion (Under n) (sources_of (cond t (LChoose f.on old new) (LChoose f.on new old)))) [ true ↦ (c, (y, (x, tt))) | false ↦ (c, (x, (y, tt))) ]

pub chooses_plain : (f : Frame Source) (new old : Source) → is_plain (choose_for f new old) ≡ true
chooses_plain f new old = elim f.second as (λ t. is_plain (cond t (LChoose f.on old new) (LChoose f.on new old)) ≡ true) [ true ↦ refl | false ↦ refl ]

-- what holds of each latest value holds after one is renewed
pub set_each : (P : Source → Type 0) (t : List Source) (i : ℕ) (x : Source) → ((j : ℕ) → P (get_or t j (Fixed 0))) → P x → (j : ℕ) → P (get_or (set t i x) j (Fixed 0))
set_each P [] i x h p j = h j
set_each P (y ∷ t) zero x h p zero = p
set_each P (y ∷ t) zero x h p (suc j) = h (suc j)
set_each P (y ∷ t) (suc i) x h p zero = h 0
set_each P (y ∷ t) (suc i) x h p (suc j) = set_each P t i x (λ k. h (suc k)) p j

renewed_each : (P : Source → Type 0) (t : Target) (x : Source) (l : Latest) → ((a : Operand) → P (source_of l a)) → P x → (a : Operand) → P (source_of (renewed t x l) a)
renewed_each P (ToField i) x l h p (Field j) = set_each P l.fields i x (λ k. h (Field k)) p j
renewed_each P (ToField i) x l h p (State s) = h (State s)
renewed_each P (ToField i) x l h p (Constant c) = h (Constant c)
renewed_each P (ToState i) x l h p (Field j) = h (Field j)
renewed_each P (ToState i) x l h p (State s) = set_each P l.states i x (λ k. h (State k)) p s
renewed_each P (ToState i) x l h p (Constant c) = h (Constant c)

-- the read lines r stand first
module _ (r : List Line) where
  pub record Good (ls : List Line) : Type 0 where
    pub ordered : Ordered ls
    pub rest : List Line
    pub front : ls ≡ r ++ rest
    pub plain : AllPass is_plain rest

  good_push : (ls : List Line) (l : Line) → Good ls → AllByRecursion (Under (length ls)) (sources_of l) → is_plain l ≡ true → Good (ls ++ (l ∷ []))
  good_push ls l g u p =
      record {
        ordered = ordered_push ls l g.ordered u;
        rest = g.rest ++ (l ∷ []);
        front = ap (λ (x : List Line). x ++ (l ∷ [])) g.front ∙ append_assoc r g.rest (l ∷ []);
        plain = All-push (λ (x : Line). is_plain x ≡ true) g.rest l g.plain p;
      }

  good_guarded : (frames : List (Frame Source)) (old : Source) (ls : List Line) → 0 < length ls → ConditionsUnder (length ls) frames → Under (length ls) old → Good ls → Good (guarded frames old ls)
  good_guarded [] old ls h c u g = g
  good_guarded (f ∷ frames) old ls h c u g =
      let l : Line = choose_for f (last ls) old in
      let up : length ls ≤ length (ls ++ (l ∷ [])) = omega (arith, length_push ls l) in
      good_guarded frames old (ls ++ (l ∷ [])) (omega arith) (conditions_up _ _ frames up c.1) (under_up _ _ old up u)
      (good_push ls l g (chooses_under (length ls) f (last ls) old c.0 (omega arith) u) (chooses_plain f (last ls) old))

  -- every latest value and condition is a line that is there
  pub record Low (d : Draft) : Type 0 where
    pub good : Good d.lines
    pub latest : (a : Operand) → Under (length d.lines) (source_of d.latest a)
    pub nest : ConditionsUnder (length d.lines) d.nest

  module _ (l : Line) (old : Source) (d : Draft) where
    pub longer : length d.lines < length (guarded d.nest old (d.lines ++ (l ∷ [])))
    longer = omega (arith, guarded_long d.nest old (d.lines ++ (l ∷ [])), length_push d.lines l)

    pub up_one : length d.lines ≤ length (d.lines ++ (l ∷ []))
    up_one = omega (arith, length_push d.lines l)

  pub assigned_low : (t : Target) (l : Line) (d : Draft) → Low d → AllByRecursion (Under (length d.lines)) (sources_of l) → is_plain l ≡ true → Low (assigned t l d)
  assigned_low t l d w u p =
      let old : Source = source_of d.latest (target_operand t) in
      let ls : List Line = guarded d.nest old (d.lines ++ (l ∷ [])) in
      let more : length d.lines < length ls = longer l old d in
      record {
        good = good_guarded d.nest old (d.lines ++ (l ∷ [])) (omega (arith, length_push d.lines l)) (conditions_up _ _ d.nest (up_one l old d) w.nest) (under_up _ _ old (up_one l old d) (w.latest (target_operand t))) (good_push d.lines l w.good u p);
        latest = renewed_each (Under (length ls)) t (last ls) d.latest (λ a. under_up _ (length ls) _ (omega arith) (w.latest a)) (omega arith);
        nest = conditions_up _ (length ls) d.nest (omega arith) w.nest;
      }

  nesting_low : (frames : List (Frame Source)) (d : Draft) → Low d → ConditionsUnder (length d.lines) frames → Low (nesting frames d)
  nesting_low frames d w c = record { good = w.good; latest = w.latest; nest = c }

  pub turned_under : (n : ℕ) (frames : List (Frame Source)) → ConditionsUnder n frames → ConditionsUnder n (turned frames)
  turned_under n [] c = tt
  turned_under n (f ∷ frames) c = c

  pub outer_under : (n : ℕ) (frames : List (Frame Source)) → ConditionsUnder n frames → ConditionsUnder n (outer frames)
  outer_under n [] c = tt
  outer_under n (f ∷ frames) c = c.1

  pub adds_low : (x : Statement) (d : Draft) → Low d → Low (adds x d)
  adds_low (Copy t a) d w = assigned_low t (LCopy (source_of d.latest a)) d w (w.latest a, tt) refl
  adds_low (Add t a b) d w = assigned_low t (LAdd (source_of d.latest a) (source_of d.latest b)) d w (w.latest a, (w.latest b, tt)) refl
  adds_low (Sub t a b) d w = assigned_low t (LSub (source_of d.latest a) (source_of d.latest b)) d w (w.latest a, (w.latest b, tt)) refl
  adds_low (Less t a b) d w = assigned_low t (LLess (source_of d.latest a) (source_of d.latest b)) d w (w.latest a, (w.latest b, tt)) refl
  adds_low (Equal t a b) d w = assigned_low t (LEqual (source_of d.latest a) (source_of d.latest b)) d w (w.latest a, (w.latest b, tt)) refl
  adds_low (Choose t c a b) d w = assigned_low t (LChoose (source_of d.latest c) (source_of d.latest a) (source_of d.latest b)) d w (w.latest c, (w.latest a, (w.latest b, tt))) refl
  adds_low (If c) d w = nesting_low _ d w (w.latest c, w.nest)
  adds_low Else d w = nesting_low _ d w (turned_under _ d.nest w.nest)
  adds_low End d w = nesting_low _ d w (outer_under _ d.nest w.nest)

  pub all_low : (xs : List Statement) (d : Draft) → Low d → Low (adds_all xs d)
  all_low [] d w = w
  all_low (x ∷ xs) d w = all_low xs (adds x d) (adds_low x d w)
