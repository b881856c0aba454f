-- The values of lines, worked out one after another. Assumes nothing.
use Rattle.std.proofs.Common.{◌≡◌, ℕ, zero, suc, ◌+◌, ◌<◌, ◌≤◌, List, [], ◌∷◌, ◌++◌, length, get_or, take, set, sym, refl, ap, ◌∙◌, subst, ap₂, append_assoc, append-nil, add-zero, zero-add, take_all, arith}
use Rattle.std.specs.List.{AllByRecursion}
use Rattle.std.proofs.lemmas.List.{length_push, get_or_push, get_or_append_left, get_or-take, take_more, take_more_set}
use Rattle.word.specs.Words.{less_than, equal_to, chosen}
use Rattle.meaning.specs.Serial.{Values}
use Rattle.lines.specs.declared.line.Source.{Source}
use Rattle.lines.specs.declared.line.Source.TheVariants.{Field as Incoming, Line as Made, Constant as Fixed}
use Rattle.lines.specs.declared.line.Line.{Line}
use Rattle.lines.specs.declared.line.Line.TheVariants.{Read, Copy, Add, Sub, Less, Equal, Choose, Write}
use Rattle.lines.specs.Layout.{sources_of, Ordered}
use Rattle.lines.specs.Work.{value_of, makes, worked_on, worked, Satisfied}
use Rattle.lines.proofs.Sources.{Under, all_from}

module _ (plus minus : ℕ → ℕ → ℕ) (v : Values) where
  pub worked_push : (ls : List Line) (l : Line) (vs : List ℕ) → worked_on plus minus v (ls ++ (l ∷ [])) vs ≡ worked_on plus minus v ls vs ++ (makes plus minus v (worked_on plus minus v ls vs) l ∷ [])
  worked_push [] l vs = refl
  worked_push (x ∷ ls) l vs = worked_push ls l (vs ++ (makes plus minus v vs x ∷ []))

  long : (ls : List Line) (vs : List ℕ) → length (worked_on plus minus v ls vs) ≡ length vs + length ls
  long [] vs = sym (add-zero (length vs))
  long (x ∷ ls) vs = omega (arith, long ls (vs ++ (makes plus minus v vs x ∷ [])), length_push vs (makes plus minus v vs x))

  pub worked_long : (ls : List Line) → length (worked plus minus v ls) ≡ length ls
  worked_long ls = long ls [] ∙ zero-add (length ls)

  -- two tables of values that agree below line k
  abbrev pub Agree : ℕ → List ℕ → List ℕ → Type 0
  Agree k vs vs' = (m : ℕ) → m < k → get_or vs' m 0 ≡ get_or vs m 0

  module _ (k : ℕ) (vs vs' : List ℕ) (g : Agree k vs vs') where
    pub value_same : (a : Source) → Under k a → value_of v.fields vs' a ≡ value_of v.fields vs a
    value_same (Incoming i) u = refl
    value_same (Made m) u = g m u
    value_same (Fixed c) u = refl

    pub makes_same : (l : Line) → AllByRecursion (Under k) (sources_of l) → makes plus minus v vs' l ≡ makes plus minus v vs l
    makes_same (Read s) u = refl
    makes_same (Copy a) u = value_same a u.0
    makes_same (Add a b) u = ap₂ plus (value_same a u.0) (value_same b u.1.0)
    makes_same (Sub a b) u = ap₂ minus (value_same a u.0) (value_same b u.1.0)
    makes_same (Less a b) u = ap₂ less_than (value_same a u.0) (value_same b u.1.0)
    makes_same (Equal a b) u = ap₂ equal_to (value_same a u.0) (value_same b u.1.0)
    makes_same (Choose c a b) u =
        ap (λ (x : ℕ). chosen x (value_of v.fields vs' a) (value_of v.fields vs' b)) (value_same c u.0)
        ∙ ap₂ (chosen (value_of v.fields vs c)) (value_same a u.1.0) (value_same b u.1.1.0)
    makes_same (Write s a) u = value_same a u.0

  -- later lines change no value
  front : (ls : List Line) (vs : List ℕ) → Agree (length vs) vs (worked_on plus minus v ls vs)
  front [] vs m h = refl
  front (l ∷ ls) vs m h =
      let x : ℕ = makes plus minus v vs l in
      front ls (vs ++ (x ∷ [])) m (omega (arith, length_push vs x)) ∙ get_or_append_left vs (x ∷ []) 0 m h

  abbrev OrderedFrom : ℕ → List Line → Type 0
  OrderedFrom k ls = (n : ℕ) → n < length ls → AllByRecursion (Under (k + n)) (sources_of (get_or ls n (Read 0)))

  each : (ls : List Line) (vs : List ℕ) → OrderedFrom (length vs) ls → (n : ℕ) → n < length ls → get_or (worked_on plus minus v ls vs) (length vs + n) 0 ≡ makes plus minus v (worked_on plus minus v ls vs) (get_or ls n (Read 0))
  each [] vs o n h = absurd (omega arith)
  each (l ∷ ls) vs o zero h =
      let x : ℕ = makes plus minus v vs l in
      ap (λ (k : ℕ). get_or (worked_on plus minus v (l ∷ ls) vs) k 0) (add-zero (length vs))
      ∙ front ls (vs ++ (x ∷ [])) (length vs) (omega (arith, length_push vs x)) ∙ get_or_push vs x 0 (length vs) refl
      ∙ sym (makes_same (length vs) vs (worked_on plus minus v (l ∷ ls) vs) (front (l ∷ ls) vs) l (subst (λ (k : ℕ). AllByRecursion (Under k) (sources_of l)) (add-zero (length vs)) (o 0 (omega arith))))
  each (l ∷ ls) vs o (suc n) h =
      let x : ℕ = makes plus minus v vs l in
      let q : length vs + suc n ≡ length (vs ++ (x ∷ [])) + n = omega (arith, length_push vs x) in
      ap (λ (k : ℕ). get_or (worked_on plus minus v (l ∷ ls) vs) k 0) q ∙ each ls (vs ++ (x ∷ [])) (λ m k. let r : length vs + suc m ≡ length (vs ++ (x ∷ [])) + m = omega (arith, length_push vs x) in subst (λ (j : ℕ). AllByRecursion (Under j) (sources_of (get_or ls m (Read 0)))) r (o (suc m) (omega arith))) n (omega arith)

  pub satisfied : (ls : List Line) → Ordered ls → Satisfied plus minus v ls (worked plus minus v ls)
  satisfied ls o n h =
      ap (λ (k : ℕ). get_or (worked plus minus v ls) k 0) (sym (zero-add n))
      ∙ each ls [] (λ m k. all_from (0 + m) _ (λ j e. let r : j < m = o m j k e in omega arith)) n h

  abbrev pub is : List Line → Source → ℕ
  is ls a = value_of v.fields (worked plus minus v ls) a

  pub stays : (ls : List Line) (l : Line) (a : Source) → Under (length ls) a → is (ls ++ (l ∷ [])) a ≡ is ls a
  stays ls l a u =
      value_same (length ls) (worked plus minus v ls) (worked plus minus v (ls ++ (l ∷ [])))
      (λ m h. ap (λ (vs : List ℕ). get_or vs m 0) (worked_push ls l []) ∙ get_or_append_left (worked plus minus v ls) _ 0 m (omega (arith, worked_long ls))) a u

  pub stays_all : (ls ms : List Line) (a : Source) → Under (length ls) a → is (ls ++ ms) a ≡ is ls a
  stays_all ls [] a u = ap (λ (l : List Line). is l a) (append-nil ls)
  stays_all ls (m ∷ ms) a u =
      ap (λ (l : List Line). is l a) (sym (append_assoc ls (m ∷ []) ms)) ∙ stays_all (ls ++ (m ∷ [])) ms a (up a u) ∙ stays ls m a u
    where
      up : (b : Source) → Under (length ls) b → Under (length (ls ++ (m ∷ []))) b
      up (Incoming i) w = tt
      up (Made k) w = omega (arith, length_push ls m)
      up (Fixed c) w = tt

  pub new_is : (ls : List Line) (l : Line) → is (ls ++ (l ∷ [])) (Made (length ls)) ≡ makes plus minus v (worked plus minus v ls) l
  new_is ls l = ap (λ (vs : List ℕ). get_or vs (length ls) 0) (worked_push ls l []) ∙ get_or_push (worked plus minus v ls) _ 0 (length ls) (worked_long ls)

  -- one line more is worked out
  pub works : (ls : List Line) (n : ℕ) (d : Line) (vs : List ℕ) (x : ℕ) → n < length ls → n < length vs → x ≡ makes plus minus v (take n vs) (get_or ls n d) → take n vs ≡ worked plus minus v (take n ls) → take (n + 1) (set vs n x) ≡ worked plus minus v (take (n + 1) ls)
  works ls n d vs x h k e q =
      take_more_set vs n x k
      ∙ ap (λ (y : ℕ). take n vs ++ (y ∷ [])) e
      ∙ ap (λ (l : List ℕ). l ++ (makes plus minus v l (get_or ls n d) ∷ [])) q
      ∙ sym (worked_push (take n ls) (get_or ls n d) [])
      ∙ sym (ap (worked plus minus v) (take_more ls n d h))

  -- all lines are worked out
  pub all_worked : (ls whole : List Line) (n k : ℕ) (vs : List ℕ) → n ≡ k → length ls ≤ n → ls ≡ whole → take n vs ≡ worked plus minus v (take n ls) → take k vs ≡ worked plus minus v whole
  all_worked ls whole n k vs e h same w = ap (λ (j : ℕ). take j vs) (sym e) ∙ w ∙ ap (worked plus minus v) (take_all n ls h ∙ same)

  -- a table whose front has been worked out
  pub table_satisfied : (ls : List Line) (k : ℕ) (vs : List ℕ) → length ls ≡ k → Ordered ls → take k vs ≡ worked plus minus v ls → Satisfied plus minus v ls vs
  table_satisfied ls k vs e o q n h =
      let ws : List ℕ = worked plus minus v ls in
      let same : (m : ℕ) → m < k → get_or vs m 0 ≡ get_or ws m 0 = λ m j. sym (get_or-take k vs m 0 j) ∙ ap (λ (l : List ℕ). get_or l m 0) q in
      same n (omega arith) ∙ satisfied ls o n h
      ∙ sym (makes_same n ws vs (λ m j. same m (omega arith)) (get_or ls n (Read 0)) (all_from n _ (λ m r. o n m h r)))

  -- the values are the only ones that satisfy the lines
  pub only : (ls : List Line) (vs : List ℕ) → Ordered ls → Satisfied plus minus v ls vs → (k n : ℕ) → n < k → n < length ls → get_or vs n 0 ≡ get_or (worked plus minus v ls) n 0
  only ls vs o s zero n h j = absurd (omega arith)
  only ls vs o s (suc k) n h j =
      s n j
      ∙ makes_same n (worked plus minus v ls) vs (λ m i. only ls vs o s k m (omega arith) (omega arith)) (get_or ls n (Read 0)) (all_from n _ (λ m r. o n m j r))
      ∙ sym (satisfied ls o n j)
