-- One call more of a list, answered in its place. Assumes nothing.
use Rattle.std.proofs.Common.{◌≡◌, ℕ, zero, suc, ◌+◌, ◌<◌, ◌≤◌, ◌⊎◌, List, [], ◌∷◌, ◌++◌, map, length, get_or, take, drop, set, sym, refl, ap, ◌∙◌, subst, ap₂, inl, inr, add-one, arith, take_all, get_or-set_other, take-suc, get_or-set_same, take-suc-set}
use lib.ListN.{length-map, get_or-map}
use Rattle.std.proofs.lemmas.List.{get_or_default}
use Rattle.std.proofs.lemmas.Bool.{cases_eq}
use Rattle.meaning.specs.Serial.{Values}
use Rattle.image.specs.Reading.{Answer}
use Rattle.book.specs.Calls as book
use Rattle.book.specs.Book.{Shape, Packet, answer, turned, answers, ended}
use Rattle.book.specs.Pipeline.{Pipeline, Contents, reply, Stepped, Ran}
use Rattle.book.specs.Right.{Right}
use Rattle.book.specs.Agrees.{Agrees}
use Rattle.book.proofs.Agreement.{fresh_agrees}
use Rattle.book.proofs.Runs.{served}
use Rattle.calls.specs.declared.call.Asked.{Asked}
use Rattle.calls.specs.Asking.{call_in, answer_in, Spares}
use Rattle.calls.specs.Runs.{BookedAll, Run}

map_more : (vs : List Asked) (a : Asked) → map answer_in (vs ++ a ∷ []) ≡ map answer_in vs ++ answer_in a ∷ []
map_more [] a = refl
map_more (v ∷ vs) a = ap {B = List (Answer book.Outcome)} (λ (l : List (Answer book.Outcome)). answer_in v ∷ l) (map_more vs a)

map_calls : (vs : List Asked) (a : Asked) → map call_in (vs ++ a ∷ []) ≡ map call_in vs ++ call_in a ∷ []
map_calls [] a = refl
map_calls (v ∷ vs) a = ap {B = List book.Call} (λ (l : List book.Call). call_in v ∷ l) (map_calls vs a)

module _ {A : Type 0} where
  first_drop : (i : ℕ) (l : List A) (d : A) → get_or (drop i l) 0 d ≡ get_or l i d
  first_drop zero [] d = refl
  first_drop zero (x ∷ l) d = refl
  first_drop (suc i) [] d = refl
  first_drop (suc i) (x ∷ l) d = first_drop i l d

  drop_next : (i : ℕ) (l : List A) → drop (suc i) l ≡ drop 1 (drop i l)
  drop_next zero l = refl
  drop_next (suc i) [] = refl
  drop_next (suc i) (x ∷ l) = drop_next i l

  drop_set : (i : ℕ) (l : List A) (a : A) → drop (suc i) (set l i a) ≡ drop (suc i) l
  drop_set i [] a = refl
  drop_set zero (x ∷ l) a = refl
  drop_set (suc i) (x ∷ l) a = drop_set i l a

module _ (shape : Shape) (one : Values → Values) where
  answers_more : (cs : List book.Call) (c : book.Call) (b : List Packet) → answers shape one (cs ++ c ∷ []) b ≡ answers shape one cs b ++ answer shape one c (ended shape one cs b) ∷ []
  answers_more [] c b = refl
  answers_more (x ∷ cs) c b = ap {B = List (Answer book.Outcome)} (λ (l : List (Answer book.Outcome)). answer shape one x b ∷ l) (answers_more cs c (turned shape one x b))

  ended_more : (cs : List book.Call) (c : book.Call) (b : List Packet) → ended shape one (cs ++ c ∷ []) b ≡ turned shape one c (ended shape one cs b)
  ended_more [] c b = refl
  ended_more (x ∷ cs) c b = ended_more cs c (turned shape one x b)

module _ {Row : Type 0} (P : Pipeline Row) where
  ran_more : (cs : List book.Call) (rs : List (Answer book.Outcome)) (c : book.Call) (m m' m'' : Contents Row) → Ran P cs m rs m' → Stepped P (reply P c m') c m' m'' → Ran P (cs ++ c ∷ []) m (rs ++ reply P c m' ∷ []) m''
  ran_more cs rs c m m' m'' (Ran.none) t = Ran.next t Ran.none
  ran_more cs rs c m m' m'' (Ran.next {cs = ds} {m' = k} {rs = qs} s r) t = Ran.next s (ran_more ds qs c k m' m'' r t)

  -- the first i calls of ys are answered in xs, and the others not yet
  pub record SoFar (ys xs : List Asked) (i : ℕ) (m m' : Contents Row) : Type 0 where
    pub ran : Ran P (take i (map call_in ys)) m (map answer_in (take i xs)) m'
    pub book : (one : Values → Values) (b : List Packet) → Right P one → Agrees P one b m → BookedAll P one (take i (map call_in ys)) (map answer_in (take i xs)) b m'
    pub ahead : drop i xs ≡ drop i ys
    pub kept : map call_in (take i xs) ≡ take i (map call_in ys)
    pub spares : (k : ℕ) (d : Asked) → k < i → Spares (get_or xs k d).answer (get_or ys k d).call (get_or xs k d).call

  pub so_far_none : (ys : List Asked) (m : Contents Row) → SoFar ys ys 0 m m
  so_far_none ys m = record { ran = Ran.none; book = λ one b R a. record { answers = refl; agrees = a }; ahead = refl; kept = refl; spares = λ k d h. absurd (omega arith) }

  -- what a call answers and leaves, by the pipeline and for every book
  pub record Turn (c : book.Call) (r : Answer book.Outcome) (m m' : Contents Row) : Type 0 where
    pub replies : r ≡ reply P c m
    pub step : Stepped P r c m m'
    pub book : (one : Values → Values) (b : List Packet) → Right P one → Agrees P one b m → (r ≡ answer P.shape one c b) × Agrees P one (turned P.shape one c b) m'

  pub so_far_more : (ys xs : List Asked) (i : ℕ) (x y : Asked) (m m' m'' : Contents Row) → x ≡ get_or xs i x → i < length xs → length xs ≡ length ys → Turn (call_in x) (answer_in y) m' m'' → call_in y ≡ call_in x → Spares y.answer x.call y.call → SoFar ys xs i m m' → SoFar ys (set xs i y) (i + 1) m m''
  so_far_more ys xs i x y m m' m'' ex h hl turn stays keeps s =
      record {
        ran = subst (λ (n : ℕ). Ran P (take n (map call_in ys)) m (map answer_in (take n (set xs i y))) m'') (sym next) (subst (λ (l : List book.Call). Ran P l m (map answer_in (take (suc i) (set xs i y))) m'') (sym calls) (subst (λ (l : List (Answer book.Outcome)). Ran P (take i (map call_in ys) ++ call_in x ∷ []) m l m'') (sym replies) (ran_more (take i (map call_in ys)) (map answer_in (take i xs)) (call_in x) m m' m'' s.ran (subst (λ (r : Answer book.Outcome). Stepped P r (call_in x) m' m'') turn.replies turn.step))));
        book = λ one b R a. more one b R (s.book one b R a);
        ahead = ap {B = List Asked} (λ (n : ℕ). drop n (set xs i y)) next ∙ drop_set i xs y ∙ drop_next i xs ∙ ap {B = List Asked} (λ (q : List Asked). drop 1 q) s.ahead ∙ sym (drop_next i ys) ∙ ap {B = List Asked} (λ (n : ℕ). drop n ys) (sym next);
        kept = subst (λ (n : ℕ). map call_in (take n (set xs i y)) ≡ take n (map call_in ys)) (sym next) (ap (map call_in) (take-suc-set xs i y h) ∙ map_calls (take i xs) y ∙ ap₂ {C = List book.Call} (λ (l : List book.Call) (k : book.Call). l ++ k ∷ []) s.kept stays ∙ sym calls);
        spares = λ k d lt. spare k d lt (cases_eq k i);
      }
    where
      next : i + 1 ≡ suc i
      next = add-one i

      same : (d : Asked) → get_or xs i d ≡ get_or ys i d
      same d = sym (first_drop i xs d) ∙ ap {B = Asked} (λ (q : List Asked). get_or q 0 d) s.ahead ∙ first_drop i ys d

      calls : take (suc i) (map call_in ys) ≡ take i (map call_in ys) ++ call_in x ∷ []
      calls =
          take-suc (map call_in ys) i (call_in x) (subst (λ (n : ℕ). i < n) (sym (length-map ys call_in)) (omega arith))
          ∙ ap {B = List book.Call} (λ (c : book.Call). take i (map call_in ys) ++ c ∷ []) (get_or-map call_in ys i x ∙ ap {B = book.Call} call_in (sym (same x) ∙ sym ex))

      made : map answer_in (take (suc i) (set xs i y)) ≡ map answer_in (take i xs) ++ answer_in y ∷ []
      made = ap (map answer_in) (take-suc-set xs i y h) ∙ map_more (take i xs) y

      replies : map answer_in (take (suc i) (set xs i y)) ≡ map answer_in (take i xs) ++ reply P (call_in x) m' ∷ []
      replies = made ∙ ap {B = List (Answer book.Outcome)} (λ (r : Answer book.Outcome). map answer_in (take i xs) ++ r ∷ []) turn.replies

      more : (one : Values → Values) (b : List Packet) → Right P one → BookedAll P one (take i (map call_in ys)) (map answer_in (take i xs)) b m' → BookedAll P one (take (i + 1) (map call_in ys)) (map answer_in (take (i + 1) (set xs i y))) b m''
      more one b R z =
          let cs : List book.Call = take i (map call_in ys) in
          let t = turn.book one (ended P.shape one cs b) R z.agrees in
          let told : map answer_in (take i xs) ++ answer_in y ∷ [] ≡ answers P.shape one (cs ++ call_in x ∷ []) b =
          ap₂ {C = List (Answer book.Outcome)} (λ (l : List (Answer book.Outcome)) (r : Answer book.Outcome). l ++ r ∷ []) z.answers t.0 ∙ sym (answers_more P.shape one cs (call_in x) b) in
          record {
            answers = subst (λ (n : ℕ). map answer_in (take n (set xs i y)) ≡ answers P.shape one (take n (map call_in ys)) b) (sym next) (made ∙ told ∙ ap {B = List (Answer book.Outcome)} (λ (l : List book.Call). answers P.shape one l b) (sym calls));
            agrees = subst (λ (n : ℕ). Agrees P one (ended P.shape one (take n (map call_in ys)) b) m'') (sym next) (subst (λ (l : List book.Call). Agrees P one (ended P.shape one l b) m'') (sym calls) (subst (λ (q : List Packet). Agrees P one q m'') (sym (ended_more P.shape one cs (call_in x) b)) t.1));
          }

      spare : (k : ℕ) (d : Asked) → k < i + 1 → (k ≡ i) ⊎ (k ≡ i → ⊥) → Spares (get_or (set xs i y) k d).answer (get_or ys k d).call (get_or (set xs i y) k d).call
      spare k d lt (inl e) =
          let there : get_or (set xs i y) k d ≡ y = ap {B = Asked} (λ (j : ℕ). get_or (set xs i y) j d) e ∙ get_or-set_same xs i y d h in
          let was : get_or ys k d ≡ x = ap {B = Asked} (λ (j : ℕ). get_or ys j d) e ∙ sym (same d) ∙ get_or_default xs i d x h ∙ sym ex in
          subst (λ (q : Asked). Spares q.answer (get_or ys k d).call q.call) (sym there) (subst (λ (q : Asked). Spares y.answer q.call y.call) (sym was) keeps)
      spare k d lt (inr ne) =
          subst (λ (q : Asked). Spares q.answer (get_or ys k d).call q.call) (sym (get_or-set_other xs i k y d ne)) (s.spares k d (omega arith))

  pub so_far_all : (ys xs : List Asked) (i : ℕ) (m m' : Contents Row) → length ys ≤ i → length xs ≡ length ys → SoFar ys xs i m m' → Run P ys xs m m'
  so_far_all ys xs i m m' h hl s =
      record {
        ran = subst (λ (l : List Asked). Ran P (map call_in ys) m (map answer_in l) m') (take_all i xs (omega arith)) (subst (λ (l : List book.Call). Ran P l m (map answer_in (take i xs)) m') whole s.ran);
        book = all;
        served = λ one R z. let x = all one [] R (fresh_agrees P one R m z) in served P one R (map call_in ys) (map answer_in xs) m' x.answers x.agrees;
        calls = ap (map call_in) (sym (take_all i xs (omega arith))) ∙ s.kept ∙ whole;
        spares = λ k d lt. s.spares k d (omega arith);
      }
    where
      whole : take i (map call_in ys) ≡ map call_in ys
      whole = take_all i (map call_in ys) (subst (λ (n : ℕ). n ≤ i) (sym (length-map ys call_in)) h)

      all : (one : Values → Values) (b : List Packet) → Right P one → Agrees P one b m → BookedAll P one (map call_in ys) (map answer_in xs) b m'
      all one b R a =
          subst (λ (l : List Asked). BookedAll P one (map call_in ys) (map answer_in l) b m') (take_all i xs (omega arith))
          (subst (λ (l : List book.Call). BookedAll P one l (map answer_in (take i xs)) b m') whole (s.book one b R a))
