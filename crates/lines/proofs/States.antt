-- One turn of a loop over the states, each named or not. Assumes nothing.
use Rattle.std.proofs.Common.{◌≡◌, ℕ, ◌+◌, ◌<◌, ◌≤◌, Bool, true, false, List, [], ◌∷◌, ◌++◌, map, length, get_or, take, drop, set, sym, ap, ◌∙◌, append_assoc, append-nil, add-zero, add-one, take_all, ⊎_elim, arith}
use Rattle.std.proofs.lemmas.Bool.{cases_Bool}
use Rattle.std.proofs.lemmas.List.{drop_more, drop_all, take_more_set}
use Rattle.lines.specs.declared.line.Source.{Source}
use Rattle.lines.specs.declared.line.Source.TheVariants.{Line as Made, Constant as Fixed}
use Rattle.lines.specs.Named.{states_from}
use Rattle.lines.specs.Build.{firsts, numbered}

-- a list that grows by one
grown : {X : Type 0} (done : List X) (x : X) (rest whole : List X) → whole ≡ x ∷ rest → (done ++ (x ∷ [])) ++ rest ≡ done ++ whole
grown done x rest whole e = append_assoc done (x ∷ []) rest ∙ sym (ap (λ (l : List _). done ++ l) e)

-- a table that is filled from the front
filled : {X : Type 0} (table : List X) (s : ℕ) (x : X) (rest whole : List X) → s < length table → whole ≡ x ∷ rest → take (s + 1) (set table s x) ++ rest ≡ take s table ++ whole
filled table s x rest whole h e = ap (λ (l : List _). l ++ rest) (take_more_set table s x h) ∙ grown (take s table) x rest whole e

pub full : {X : Type 0} (table : List X) (s : ℕ) (rest whole : List X) → length table ≤ s → rest ≡ [] → take s table ++ rest ≡ whole → table ≡ whole
full table s rest whole h e q = sym (ap (λ (l : List _). take s table ++ l) e ∙ append-nil (take s table) ∙ take_all s table h) ∙ q

module _ (N : List Bool) (s : ℕ) (h : s < length N) where
  here : (m : Bool) → get_or N s false ≡ m → drop s N ≡ m ∷ drop (s + 1) N
  here m e = drop_more N s false h ∙ ap (λ (b : Bool). b ∷ drop (s + 1) N) e

  module _ {X : Type 0} (f : ℕ → X) (done : List X) where
    pub listed : get_or N s false ≡ true → (done ++ (f s ∷ [])) ++ map f (states_from (s + 1) (drop (s + 1) N)) ≡ done ++ map f (states_from s (drop s N))
    listed e = grown done (f s) _ _ (ap (λ (ms : List Bool). map f (states_from s ms)) (here true e) ∙ ap (λ (k : ℕ). f s ∷ map f (states_from k (drop (s + 1) N))) (sym (add-one s)))

    pub unlisted : get_or N s false ≡ false → done ++ map f (states_from (s + 1) (drop (s + 1) N)) ≡ done ++ map f (states_from s (drop s N))
    unlisted e = sym (ap (λ (ms : List Bool). done ++ map f (states_from s ms)) (here false e) ∙ ap (λ (k : ℕ). done ++ map f (states_from k (drop (s + 1) N))) (sym (add-one s)))

  module _ (n : ℕ) where
    numbered_named : (table : List ℕ) → s < length table → get_or N s false ≡ true → take (s + 1) (set table s n) ++ numbered (n + 1) (drop (s + 1) N) ≡ take s table ++ numbered n (drop s N)
    numbered_named table k e = filled table s n _ _ k (ap (numbered n) (here true e) ∙ ap (λ (m : ℕ). n ∷ numbered m (drop (s + 1) N)) (sym (add-one n)))

    numbered_unnamed : (table : List ℕ) → s < length table → get_or N s false ≡ false → take (s + 1) (set table s n) ++ numbered n (drop (s + 1) N) ≡ take s table ++ numbered n (drop s N)
    numbered_unnamed table k e = filled table s n _ _ k (ap (numbered n) (here false e))

    -- the next number is one more, or the same
    pub numbered_on : (table : List ℕ) (m : ℕ) → s < length table → (get_or N s false ≡ true → m ≡ 1) → (get_or N s false ≡ false → m ≡ 0) → (m ≤ 1) × (take (s + 1) (set table s n) ++ numbered (n + m) (drop (s + 1) N) ≡ take s table ++ numbered n (drop s N))
    numbered_on table m k one none =
        let at : (j : ℕ) → m ≡ j → take (s + 1) (set table s n) ++ numbered (n + m) (drop (s + 1) N) ≡ take (s + 1) (set table s n) ++ numbered (n + j) (drop (s + 1) N) =
        λ j e. ap (λ (i : ℕ). take (s + 1) (set table s n) ++ numbered (n + i) (drop (s + 1) N)) e in
        ⊎_elim
        (λ (t : get_or N s false ≡ true). let e : m ≡ 1 = one t in (omega arith, at 1 e ∙ numbered_named table k t))
        (λ (f : get_or N s false ≡ false). let e : m ≡ 0 = none f in (omega arith, at 0 e ∙ ap (λ (i : ℕ). take (s + 1) (set table s n) ++ numbered i (drop (s + 1) N)) (add-zero n) ∙ numbered_unnamed table k f))
        (cases_Bool (get_or N s false))

    pub first_named : (table : List Source) → s < length table → get_or N s false ≡ true → take (s + 1) (set table s (Made n)) ++ firsts (n + 1) (drop (s + 1) N) ≡ take s table ++ firsts n (drop s N)
    first_named table k e = filled table s (Made n) _ _ k (ap (firsts n) (here true e) ∙ ap (λ (m : ℕ). Made n ∷ firsts m (drop (s + 1) N)) (sym (add-one n)))

    pub first_unnamed : (table : List Source) → s < length table → get_or N s false ≡ false → take (s + 1) (set table s (Fixed 0)) ++ firsts n (drop (s + 1) N) ≡ take s table ++ firsts n (drop s N)
    first_unnamed table k e = filled table s (Fixed 0) _ _ k (ap (firsts n) (here false e))

module _ (N : List Bool) (s : ℕ) (h : length N ≤ s) where
  pub no_states : {X : Type 0} (f : ℕ → X) → map f (states_from s (drop s N)) ≡ []
  no_states f = ap (λ (ms : List Bool). map f (states_from s ms)) (drop_all s N h)

  pub all_listed : {X : Type 0} (f : ℕ → X) (done whole : List X) → done ++ map f (states_from s (drop s N)) ≡ whole → done ≡ whole
  all_listed f done whole q = sym (ap (λ (l : List _). done ++ l) (no_states f) ∙ append-nil done) ∙ q

  pub all_numbered : (n : ℕ) (table whole : List ℕ) → length table ≤ s → take s table ++ numbered n (drop s N) ≡ whole → table ≡ whole
  all_numbered n table whole k q = full table s _ whole k (ap (numbered n) (drop_all s N h)) q

  pub all_first : (n : ℕ) (table whole : List Source) → length table ≤ s → take s table ++ firsts n (drop s N) ≡ whole → table ≡ whole
  all_first n table whole k q = full table s _ whole k (ap (firsts n) (drop_all s N h)) q
