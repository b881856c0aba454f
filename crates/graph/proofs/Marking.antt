-- How marks grow along edges, and what marks that no edge leaves hold. Assumes nothing.
use Rattle.std.proofs.Common.{◌≡◌, ℕ, zero, suc, ◌+◌, ◌-◌, ◌<◌, ◌≤◌, Bool, true, false, cond, not, ◌&&◌, ◌||◌, ltb, ◌⊎◌, List, length, get_or, set, replicate, Decides, sym, refl, ap, ◌∙◌, subst, inl, inr, ⊎_elim, arith, length-set, get_or-set_other, get_or-set_same, below_more}
use Rattle.std.proofs.lemmas.Bool.{cases_eq, cases_lt, both_ways, or_left, or_parts, lt-ltb, le-ltb}
use Rattle.std.proofs.lemmas.Bool.Decides.{same_from_decides}
use Rattle.std.proofs.lemmas.List.Sums.{sum_by-set, count_by-le-length}
use Rattle.graph.specs.Paths.{Path, here, step, On, Led}
use Rattle.graph.specs.Searches.{Grown, Done, Follows, Closed, marked}
use Rattle.graph.proofs.Paths.{path_from, path_to, path_edge, path_then}

marked_set : (l : List Bool) (i : ℕ) → i < length l → get_or l i false ≡ false → marked (set l i true) ≡ marked l + 1
marked_set l i h off =
    let t = sum_by-set (λ b. cond b 1 0) l i true false h in let z : cond {A = ℕ} (get_or l i false) 1 0 ≡ 0 = ap (λ b. cond b 1 0) off in omega arith

-- a mark more
on_set : (l : List Bool) (i n : ℕ) → i < length l → On l n → On (set l i true) n
on_set l i n h on = ⊎_elim (λ e. subst (λ m. On (set l i true) m) (sym e) (get_or-set_same l i true false h)) (λ ne. get_or-set_other l i n true false ne ∙ on) (cases_eq n i)

on_none : (n k : ℕ) → On (replicate n false) k → ⊥
on_none zero k e = both_ways false refl e
on_none (suc n) zero e = both_ways false refl e
on_none (suc n) (suc k) e = on_none n k e

module _ (size : ℕ) (edge : ℕ → ℕ → Bool) where
  pub grown_none : (l : List Bool) → Grown size edge l l false
  grown_none l = record { long = refl; keeps = λ n o. o; led = λ n o. inl o; more = λ e. absurd (both_ways _ refl e); same = λ _. refl }

  -- a node is marked where an edge runs to it from a mark
  grown_mark : (l : List Bool) (a b : ℕ) → a < size → b < size → b < length l → On l a → get_or l b false ≡ false → edge a b ≡ true → Grown size edge l (set l b true) true
  grown_mark l a b ha hb within on off e = record {
    long = length-set l b true;
    keeps = λ n o. on_set l b n within o;
    led = λ n o. ⊎_elim (λ (q : n ≡ b). inr (subst (λ m. Led size edge l m) (sym q) (a, on, path_edge size edge a b ha hb e))) (λ ne. inl (sym (get_or-set_other l b n true false ne) ∙ o)) (cases_eq n b);
    more = λ _. omega (arith, marked_set l b within off);
    same = λ f. absurd (both_ways _ f refl);
  }

  -- growth on growth; x tells of the first, y of the second
  pub grown_then : (old mid new : List Bool) (x y : Bool) → Grown size edge old mid x → Grown size edge mid new y → Grown size edge old new (x || y)
  grown_then old mid new x y f s = record {
    long = s.long ∙ f.long;
    keeps = λ n o. s.keeps n (f.keeps n o);
    led = λ n o. ⊎_elim (f.led n) (λ (a, on, p). inr (⊎_elim (λ q. (a, q, p)) (λ (b, q, r). (b, q, path_then size edge r p)) (f.led a on))) (s.led n o);
    more = risen x y f.more f.same s.more s.same;
    same = λ t. let (p, q) = or_parts x y t in s.same q ∙ f.same p;
  }
    where
      risen : (x y : Bool) → (x ≡ true → marked old < marked mid) → (x ≡ false → mid ≡ old) → (y ≡ true → marked mid < marked new) → (y ≡ false → new ≡ mid) → (x || y) ≡ true → marked old < marked new
      risen true true a b c d t = omega (arith, a refl, c refl)
      risen true false a b c d t = omega (arith, a refl, ap marked (d refl))
      risen false true a b c d t = omega (arith, ap marked (b refl), c refl)
      risen false false a b c d t = absurd (both_ways _ refl t)

  -- what is told where the first growth added a mark, and where it did not
  pub grown_first : (old new : List Bool) (x y : Bool) → x ≡ true → Grown size edge old new (x || y) → Grown size edge old new x
  grown_first old new x y t g = subst (λ b. Grown size edge old new b) (or_left x y t ∙ sym t) g

  pub grown_second : (old new : List Bool) (x y : Bool) → x ≡ false → Grown size edge old new (x || y) → Grown size edge old new y
  grown_second old new x y f g = subst (λ b. Grown size edge old new (b || y)) f g

  -- the edges from a to the nodes below b end at marks
  pub record Following (old new : List Bool) (a b : ℕ) (added : Bool) : Type 0 where
    pub grown : Grown size edge old new added
    pub below : (k : ℕ) → k < b → edge a k ≡ true → On new k

  pub following_none : (l : List Bool) (a : ℕ) → Following l l a 0 false
  following_none l a = record { grown = grown_none l; below = λ k lt. absurd (omega arith) }

  visited : (l l' : List Bool) (a b : ℕ) (r : Bool) → r ≡ (not (get_or l b false) && edge a b) → l' ≡ cond r (set l b true) l → a < size → b < size → b < length l → On l a → Grown size edge l l' r × (edge a b ≡ true → On l' b)
  visited l l' a b r e p ha hb within on = rw (p, e) (go (get_or l b false) (edge a b) refl refl)
    where
      go : (x y : Bool) → get_or l b false ≡ x → edge a b ≡ y → Grown size edge l (cond (not x && y) (set l b true) l) (not x && y) × (y ≡ true → On (cond (not x && y) (set l b true) l) b)
      go false true q d = (grown_mark l a b ha hb within on q d, λ _. get_or-set_same l b true false within)
      go false false q d = (grown_none l, λ t. absurd (both_ways _ refl t))
      go true true q d = (grown_none l, λ _. q)
      go true false q d = (grown_none l, λ _. q)

  pub following_more : (old new new' : List Bool) (a b : ℕ) (x y : Bool) → Following old new a b x → y ≡ (not (get_or new b false) && edge a b) → new' ≡ cond y (set new b true) new → a < size → b < size → b < length new → On old a → Following old new' a (b + 1) (x || y)
  following_more old new new' a b x y f e p ha hb within on =
      let v = visited new new' a b y e p ha hb within (f.grown.keeps a on) in
      record {
        grown = grown_then old new new' x y f.grown v.0;
        below = below_more (λ k. edge a k ≡ true → On new' k) b (λ k lt d. v.0.keeps k (f.below k lt d)) v.1;
      }

  -- a sweep on its way: the marked nodes below n are done, unless a mark was added
  pub record Sweeping (old new done : List Bool) (added : Bool) (n : ℕ) : Type 0 where
    pub grown : Grown size edge old new added
    pub below : added ≡ false → (k : ℕ) → k < n → On new k → On done k

  pub sweep_none : (l done : List Bool) → Sweeping l l done false 0
  sweep_none l done = record { grown = grown_none l; below = λ _ k lt. absurd (omega arith) }

  -- one node more is looked at
  pub sweep_more : (old new new' done done' : List Bool) (a : ℕ) (x y : Bool) → Sweeping old new done x a → Grown size edge new new' y → ((k : ℕ) → On done k → On done' k) → (On new' a → On done' a) → Sweeping old new' done' (x || y) (a + 1)
  sweep_more old new new' done done' a x y s g keeps now = record {
    grown = grown_then old new new' x y s.grown g;
    below = λ f. let t = or_parts x y f in below_more (λ k. On new' k → On done' k) a (λ k h o. keeps k (s.below t.0 k h (subst (λ l. On l k) (g.same t.1) o))) now;
  }

  -- where all marks are done, and no mark was added since, no edge leaves them
  pub sweep_all : (mid new done done' : List Bool) (added : Bool) → ((k : ℕ) → k < size → On mid k → On done k) → Grown size edge mid new added → Done size edge new done' → ((k : ℕ) → On done k → On done' k) → added ≡ false → Closed size edge new
  sweep_all mid new done done' added all g d keeps f a lt o =
      d.follows a (keeps a (all a lt (subst (λ l. On l a) (g.same f) o)))

  -- the whole search: growth from the starts, until no edge leaves the marks
  pub record Searched (starts on : List Bool) : Type 0 where
    pub keeps : (n : ℕ) → On starts n → On on n
    pub led : (n : ℕ) → On on n → On starts n ⊎ Led size edge starts n

  pub searched_none : (starts : List Bool) → Searched starts starts
  searched_none starts = record { keeps = λ n o. o; led = λ n o. inl o }

  pub searched_more : (starts on on' : List Bool) (added : Bool) → Searched starts on → Grown size edge on on' added → Searched starts on'
  searched_more starts on on' added s g = record {
    keeps = λ n o. g.keeps n (s.keeps n o);
    led = λ n o. ⊎_elim (s.led n) (λ (a, q, p). inr (⊎_elim (λ q. (a, q, p)) (λ (b, q, r). (b, q, path_then size edge r p)) (s.led a q))) (g.led n o);
  }

  -- nothing is done where nothing is marked as done
  pub done_none : (on done : List Bool) → length on ≡ 208 → done ≡ replicate 208 false → Done size edge on done
  done_none on done long p = rw p (record { long = (long, refl); follows = λ k o. absurd (on_none 208 k o) })

  -- fewer are left to mark
  pub left_less : (old new : List Bool) (added : Bool) → added ≡ true → Grown size edge old new added → length new ≡ 208 → 208 - marked new < 208 - marked old
  left_less old new added t g long = omega (arith, g.more t, count_by-le-length (λ b. b) new)

  closed_holds : (starts on : List Bool) → ((n : ℕ) → On starts n → On on n) → Closed size edge on → (a : ℕ) → On starts a → {n : ℕ} → Path size edge a n → (n < size) × On on n
  closed_holds starts on keeps c a o (here h) = (h, keeps a o)
  closed_holds starts on keeps c a o (step b n p h e) = let t = closed_holds starts on keeps c a o p in (h, c b t.0 t.1 n h e)

  -- marks that no edge leaves are exactly what a path leads to
  pub searched_all : (starts on : List Bool) → Searched starts on → Closed size edge on → (n : ℕ) → n < size → Decides (get_or on n false) (Led size edge starts n)
  searched_all starts on s c n h = (λ o. ⊎_elim (λ q. (n, q, here h)) (λ q. q) (s.led n o), λ (a, q, p). (closed_holds starts on s.keeps c a q p).1)

  pub searched_others : (starts on : List Bool) → Searched starts on → (n : ℕ) → size ≤ n → get_or on n false ≡ get_or starts n false
  searched_others starts on s n h =
      same_from_decides {P = On starts n} _ _ (λ o. ⊎_elim (λ q. q) (λ (a, q, p). absurd (let t = path_to size edge p in omega arith)) (s.led n o), s.keeps n) (λ o. o, λ o. o)

  -- from the start alone, or from nothing
  pub from_one : (from : ℕ) (starts on : List Bool) → size ≤ 208 → starts ≡ cond (ltb from size) (set (replicate 208 false) from true) (replicate 208 false) → ((n : ℕ) → n < size → Decides (get_or on n false) (Led size edge starts n)) → ((n : ℕ) → size ≤ n → get_or on n false ≡ get_or starts n false) → (n : ℕ) → Decides (get_or on n false) (Path size edge from n)
  from_one from starts on few p d o n =
      ⊎_elim (λ lt. inside lt) (λ ge. outside ge) (cases_lt n size)
    where
      only : (a : ℕ) → On starts a → (a ≡ from) × (from < size)
      only a q = ⊎_elim (λ lt. one lt (subst (λ l. On l a) (p ∙ ap (λ b. cond b (set (replicate 208 false) from true) (replicate 208 false)) (lt-ltb from size lt)) q)) (λ ge. absurd (on_none 208 a (subst (λ l. On l a) (p ∙ ap (λ b. cond b (set (replicate 208 false) from true) (replicate 208 false)) (le-ltb from size ge)) q))) (cases_lt from size)
        where
          one : from < size → On (set (replicate 208 false) from true) a → (a ≡ from) × (from < size)
          one lt r = ⊎_elim (λ e. (e, lt)) (λ ne. absurd (on_none 208 a (sym (get_or-set_other (replicate 208 false) from a true false ne) ∙ r))) (cases_eq a from)

      begun : from < size → On starts from
      begun lt = subst (λ l. On l from) (sym (p ∙ ap (λ b. cond b (set (replicate 208 false) from true) (replicate 208 false)) (lt-ltb from size lt))) (get_or-set_same (replicate 208 false) from true false (omega arith))

      inside : n < size → Decides (get_or on n false) (Path size edge from n)
      inside lt = (λ t. let (a, q, w) = (d n lt).0 t in subst (λ m. Path size edge m n) (only a q).0 w, λ w. (d n lt).1 (from, begun (path_from size edge w), w))

      outside : size ≤ n → Decides (get_or on n false) (Path size edge from n)
      outside ge = (λ t. absurd (let (e, h) = only n (sym (o n ge) ∙ t) in omega arith), λ w. absurd (let h = path_to size edge w in omega arith))
