-- The rounds find exactly the nodes that a path leads to. Assumes nothing.
use Rattle.std.proofs.Common.{◌≡◌, ℕ, zero, suc, ◌+◌, ◌<◌, ◌≤◌, Bool, true, false, cond, ◌&&◌, ◌||◌, eqb, ◌⊎◌, List, [], ◌∷◌, map, length, get_or, Decides, sym, refl, ap, ◌∙◌, subst, inl, inr, ⊎_elim, arith}
use Rattle.std.specs.List.{range_with_len, list_any}
use Rattle.std.proofs.lemmas.Bool.{both_ways, cases_eq, cases_lt, or_cases, or_left, or_right, and_parts, and_from, eqb-true, eq-eqb}
use Rattle.std.proofs.lemmas.Bool.Decides.{Decides-below_or, same_from_decides}
use Rattle.std.proofs.lemmas.List.FromFn.{length-map-range_with_len, get_or-map-range_with_len}
use Rattle.std.proofs.lemmas.List.{get_or_past}
use Rattle.std.proofs.lemmas.List.Sums.{sum_by-cons, get_or-le-sum_by, count_by-le-length}
use Rattle.graph.specs.Paths.{Path, here, step, On, Led}
use Rattle.graph.specs.Searches.{marked}
use Rattle.graph.specs.Rounds.{some_below, spread, rounds, reached, led, closure, reaches, RoundsDecidePaths, LedDecidesPaths, ClosureDecidesPaths}
use Rattle.graph.proofs.Paths.{path_from, path_to}

pub some_decides : (p : ℕ → Bool) (n : ℕ) → Decides (some_below n p) ((k : ℕ) × (k < n) × (p k ≡ true))
some_decides p = Decides-below_or p (λ k. p k ≡ true) (λ n. some_below n p) (λ k. (λ e. e, λ e. e)) refl (λ _. refl)

any_from : (p : ℕ → Bool) (a n : ℕ) → Decides (list_any p (range_with_len a n)) ((k : ℕ) × (a ≤ k) × (k < a + n) × (p k ≡ true))
any_from p a zero = (λ e. absurd (both_ways _ refl e), λ (k, l, h, e). absurd (omega arith))
any_from p a (suc n) =
    let rest = any_from p (a + 1) n in (
      λ t. ⊎_elim (λ e. (a, omega arith, omega arith, e)) (λ r. let (k, l, h, e) = rest.0 r in (k, omega arith, omega arith, e)) (or_cases (p a) _ t),
      λ (k, l, h, e). ⊎_elim (λ (q : k ≡ a). or_left (p a) _ (subst (λ m. p m ≡ true) q e)) (λ ne. or_right (p a) _ (rest.1 (k, omega arith, omega arith, e))) (cases_eq k a),
    )

-- what `any` over the numbers below n computes
pub some_below_any : (p : ℕ → Bool) (n : ℕ) → list_any p (range_with_len 0 n) ≡ some_below n p
some_below_any p n =
    same_from_decides _ _ (any_from p 0 n) (let d = some_decides p n in (λ e. let (k, h, o) = d.0 e in (k, omega arith, omega arith, o), λ (k, l, h, e). d.1 (k, omega arith, e)))

marked_cons : (b : Bool) (l : List Bool) → marked (b ∷ l) ≡ cond b 1 0 + marked l
marked_cons b l = sum_by-cons (λ b. cond b 1 0) b l

-- marks that were added to: none was, or there are more
grown : (xs ys : List Bool) → length xs ≡ length ys → ((n : ℕ) → On xs n → On ys n) → (ys ≡ xs) ⊎ (marked xs < marked ys)
grown [] [] e h = inl refl
grown [] (y ∷ ys) e h = absurd (omega arith)
grown (x ∷ xs) [] e h = absurd (omega arith)
grown (x ∷ xs) (y ∷ ys) e h = go x y (h 0) (grown xs ys (omega arith) (λ n. h (suc n)))
  where
    go : (x y : Bool) → (x ≡ true → y ≡ true) → (ys ≡ xs) ⊎ (marked xs < marked ys) → (◌≡◌ {A = List Bool} (y ∷ ys) (x ∷ xs)) ⊎ (marked (x ∷ xs) < marked (y ∷ ys))
    go true true k t = ⊎_elim (λ q. inl (ap (λ l. true ∷ l) q)) (λ lt. inr (omega (arith, marked_cons true xs, marked_cons true ys))) t
    go false false k t = ⊎_elim (λ q. inl (ap (λ l. false ∷ l) q)) (λ lt. inr (omega (arith, marked_cons false xs, marked_cons false ys))) t
    go false true k t = inr (⊎_elim (λ q. omega (arith, ap marked q, marked_cons false xs, marked_cons true ys)) (λ lt. omega (arith, marked_cons false xs, marked_cons true ys)) t)
    go true false k t = absurd (both_ways false refl (k refl))

module _ (size : ℕ) (edge : ℕ → ℕ → Bool) where
  spread_long : (l : List Bool) → length (spread size edge l) ≡ size
  spread_long l = length-map-range_with_len (λ n. get_or l n false || some_below size (λ m. get_or l m false && edge m n)) 0 size

  spread_at : (l : List Bool) (n : ℕ) → n < size → get_or (spread size edge l) n false ≡ (get_or l n false || some_below size (λ m. get_or l m false && edge m n))
  spread_at l n h = get_or-map-range_with_len (λ n. get_or l n false || some_below size (λ m. get_or l m false && edge m n)) 0 size n n false h (omega arith)

  within : (l : List Bool) (n : ℕ) → length l ≡ size → On l n → n < size
  within l n e on = ⊎_elim (λ h. h) (λ h. absurd (both_ways _ (get_or_past l n false (omega arith)) on)) (cases_lt n size)

  spread_keeps : (l : List Bool) (n : ℕ) → length l ≡ size → On l n → On (spread size edge l) n
  spread_keeps l n e on = spread_at l n (within l n e on) ∙ or_left (get_or l n false) _ on

  spread_adds : (l : List Bool) (m n : ℕ) → m < size → n < size → On l m → edge m n ≡ true → On (spread size edge l) n
  spread_adds l m n hm hn on e =
      spread_at l n hn ∙ or_right (get_or l n false) _ ((some_decides (λ m. get_or l m false && edge m n) size).1 (m, hm, and_from _ _ on e))

  -- what holds of the marks and goes on along edges holds of all that the rounds mark
  Goes_on : (ℕ → Type 0) → Type 0
  Goes_on P = (b c : ℕ) → P b → c < size → edge b c ≡ true → P c

  spread_sound : (P : ℕ → Type 0) → Goes_on P → (l : List Bool) → length l ≡ size → ((n : ℕ) → On l n → P n) → (n : ℕ) → On (spread size edge l) n → P n
  unfolding Goes_on
  spread_sound P goes l long s n on =
      let h = within (spread size edge l) n (spread_long l) on in
      ⊎_elim (s n) (λ t. let (m, hm, b) = (some_decides (λ m. get_or l m false && edge m n) size).0 t in let (o, e) = and_parts _ _ b in goes m n (s m o) h e) (or_cases (get_or l n false) _ (sym (spread_at l n h) ∙ on))

  rounds_sound : (P : ℕ → Type 0) → Goes_on P → (k : ℕ) (l : List Bool) → length l ≡ size → ((n : ℕ) → On l n → P n) → (n : ℕ) → On (rounds size edge k l) n → P n
  rounds_sound P goes zero l long s = s
  rounds_sound P goes (suc k) l long s = rounds_sound P goes k (spread size edge l) (spread_long l) (spread_sound P goes l long s)

  rounds_keep : (k : ℕ) (l : List Bool) (n : ℕ) → length l ≡ size → On l n → On (rounds size edge k l) n
  rounds_keep zero l n long on = on
  rounds_keep (suc k) l n long on = rounds_keep k (spread size edge l) n (spread_long l) (spread_keeps l n long on)

  stays : (k : ℕ) (l : List Bool) → spread size edge l ≡ l → rounds size edge k l ≡ l
  stays zero l e = refl
  stays (suc k) l e = ap (rounds size edge k) e ∙ stays k l e

  -- enough rounds end where one more adds nothing
  closes : (k : ℕ) (l : List Bool) → length l ≡ size → size < marked l + k → spread size edge (rounds size edge k l) ≡ rounds size edge k l
  closes zero l long h = absurd (omega (arith, count_by-le-length (λ b. b) l))
  closes (suc k) l long h =
      ⊎_elim (λ (q : spread size edge l ≡ l). let z = stays (suc k) l q in ap (spread size edge) z ∙ (q ∙ sym z)) (λ lt. closes k (spread size edge l) (spread_long l) (omega arith)) (grown l (spread size edge l) (long ∙ sym (spread_long l)) (λ n. spread_keeps l n long))

  closed_holds : (a : ℕ) (l : List Bool) → spread size edge l ≡ l → On l a → {n : ℕ} → Path size edge a n → On l n
  closed_holds a l e on (here h) = on
  closed_holds a l e on (step b c p h d) =
      subst (λ m. On m c) e (spread_adds l b c (path_to size edge p) h (closed_holds a l e on p) d)

  start : ℕ → List Bool
  start a = map (λ n. eqb a n) (range_with_len 0 size)

  start_long : (a : ℕ) → length (start a) ≡ size
  unfolding start
  start_long a = length-map-range_with_len (λ n. eqb a n) 0 size

  start_on : (a : ℕ) → a < size → On (start a) a
  unfolding start
  start_on a h = get_or-map-range_with_len (λ n. eqb a n) 0 size a a false h (omega arith) ∙ eq-eqb a a refl

  start_marked : (a : ℕ) → a < size → 1 ≤ marked (start a)
  start_marked a h =
      let z : cond {A = ℕ} (get_or (start a) a false) 1 0 ≡ 1 = ap (λ b. cond b 1 0) (start_on a h) in
      omega (arith, get_or-le-sum_by (λ b. cond b 1 0) (start a) a false (omega (arith, start_long a)))

  start_sound : (a n : ℕ) → On (start a) n → Path size edge a n
  unfolding start
  start_sound a n on =
      let h = within (start a) n (start_long a) on in
      let e = eqb-true a n (sym (get_or-map-range_with_len (λ n. eqb a n) 0 size n n false h (omega arith)) ∙ on) in
      subst (λ m. Path size edge a m) e (here (omega arith))

  pub reached_decides : (a n : ℕ) → Decides (get_or (reached size edge a) n false) (Path size edge a n)
  unfolding start Goes_on
  reached_decides a n = (
    rounds_sound (Path size edge a) (λ b c p h e. step b c p h e) size (start a) (start_long a) (start_sound a) n,
    λ p. let h = path_from size edge p in
        closed_holds a (rounds size edge size (start a)) (closes size (start a) (start_long a) (omega (arith, start_marked a h))) (rounds_keep size (start a) a (start_long a) (start_on a h)) p,
  )

  pub led_decides : (starts : List Bool) → length starts ≡ size → (n : ℕ) → Decides (get_or (led size edge starts) n false) (Led size edge starts n)
  unfolding Goes_on
  led_decides starts long n = (
    rounds_sound (Led size edge starts) (λ b c (a, on, p) h e. (a, on, step b c p h e)) (suc size) starts long (λ m on. (m, on, here (within starts m long on))) n,
    λ (a, on, p). closed_holds a (led size edge starts) (closes (suc size) starts long (omega arith)) (rounds_keep (suc size) starts a long on) p,
  )

  pub closure_decides : (a b : ℕ) → Decides (reaches (closure size edge) a b) (Path size edge a b)
  closure_decides a b = ⊎_elim inside beyond (cases_lt a size)
    where
      inside : a < size → Decides (reaches (closure size edge) a b) (Path size edge a b)
      inside h =
          rw (get_or-map-range_with_len (λ a. reached size edge a) 0 size a a [] h (omega arith)) (reached_decides a b)

      beyond : size ≤ a → Decides (reaches (closure size edge) a b) (Path size edge a b)
      beyond h =
          let long = length-map-range_with_len (λ a. reached size edge a) 0 size in
          let e = ap (λ l. get_or l b false) (get_or_past (closure size edge) a [] (omega arith)) in
          (λ on. absurd (both_ways _ e on), λ p. absurd (let t = path_from size edge p in omega arith))

pub rounds_decide_paths : RoundsDecidePaths
rounds_decide_paths size edge a n = reached_decides size edge a n

pub led_decides_paths : LedDecidesPaths
led_decides_paths size edge starts n long = led_decides size edge starts long n

pub closure_decides_paths : ClosureDecidesPaths
closure_decides_paths size edge a b = closure_decides size edge a b
