-- A tick under way: what stood at place q and above has moved on, and what stood below has not. Assumes nothing.
use Rattle.std.proofs.Common.{◌≡◌, ℕ, suc, ◌<◌, ◌≤◌, Bool, cond, eqb, ◌⊎◌, List, length, get_or, set, is_some, Some, None, Option, unwrap_or, sym, ap, ◌∙◌, subst, ap₂, inl, inr, arith, length-set, get_or-set_other, get_or-set_same}
use Rattle.std.proofs.lemmas.Bool.{cases_eq, cases_lt, eq-eqb, ne_eqb}
use Rattle.book.specs.Pipeline.{Pipeline, Contents, packet_at, values_at, count_at, word_of, SameSizes, Ticked}
use Rattle.machine.specs.Moved.{Passed, Moved}

same_sizes : {Row : Type 0} (m m' m'' : Contents Row) → SameSizes m m' → SameSizes m' m'' → SameSizes m m''
same_sizes m m' m'' a b = record { places = b.places ∙ a.places; carried = b.carried ∙ a.carried; counts = b.counts ∙ a.counts; words = b.words ∙ a.words }

module _ {Row : Type 0} (P : Pipeline Row) where
  pub record Passing (q : ℕ) (m m' : Contents Row) : Type 0 where
    pub moves : (r : ℕ) → q ≤ r → r < P.shape.depth → packet_at m' (suc r) ≡ packet_at m r
    pub waits : (r : ℕ) → r ≤ q → packet_at m' r ≡ packet_at m r
    pub works : (r : ℕ) → q ≤ r → r < P.shape.depth → values_at P m' (suc r) ≡ cond (is_some (packet_at m r)) (P.work (suc r) (values_at P m r) m.words) (values_at P m (suc r))
    pub carried : (r : ℕ) → r ≤ q → values_at P m' r ≡ values_at P m r
    pub runs : (s r : ℕ) → s < P.shape.states → q ≤ r → r < P.shape.depth → P.shape.stage s ≡ suc r → word_of m' s ≡ cond (is_some (packet_at m r)) (P.run s (word_of m s) (values_at P m r)) (word_of m s)
    pub rests : (s : ℕ) → (s < P.shape.states → (r : ℕ) → q ≤ r → r < P.shape.depth → P.shape.stage s ≡ suc r → ⊥) → word_of m' s ≡ word_of m s
    pub counts : (r : ℕ) → q ≤ r → r < P.shape.depth → count_at m' (suc r) ≡ unwrap_or (packet_at m r) (count_at m (suc r))
    pub counted : (r : ℕ) → r ≤ q → count_at m' r ≡ count_at m r
    pub past : (r : ℕ) → P.shape.depth < r → (packet_at m' r ≡ packet_at m r) × (values_at P m' r ≡ values_at P m r) × (count_at m' r ≡ count_at m r)
    pub sizes : SameSizes m m'

  more : (q : ℕ) (m x y : Contents Row) → q < P.shape.depth → suc q < length x.places → Passing (suc q) m x → Moved P m.words q (suc q) x y → Passing q m y
  more q m x y hq hl p h =
      record {
        moves = λ r a b. mv r a b (cases_eq r q);
        waits = λ r a. place r (omega arith) ∙ p.waits r (omega arith);
        works = λ r a b. wk r a b (cases_eq r q);
        carried = λ r a. h.carried r (omega arith) ∙ p.carried r (omega arith);
        runs = λ s r hs a b e. rn s r hs a b e (cases_eq r q);
        rests = λ s f. h.rests s (λ hs e. f hs q (omega arith) hq e) ∙ p.rests s (λ hs r a b e. f hs r (omega arith) b e);
        counts = λ r a b. cn r a b (cases_eq r q);
        counted = λ r a. h.others r (omega arith) ∙ p.counted r (omega arith);
        past = λ r a. (place r (omega arith) ∙ (p.past r a).0, h.carried r (omega arith) ∙ (p.past r a).1, h.others r (omega arith) ∙ (p.past r a).2);
        sizes = same_sizes m x y p.sizes h.sizes;
      }
    where
      here : packet_at x q ≡ packet_at m q
      here = p.waits q (omega arith)

      place : (r : ℕ) → (r ≡ suc q → ⊥) → packet_at y r ≡ packet_at x r
      place r ne = ap {B = Option ℕ} (λ (l : List (Option ℕ)). get_or l r None) h.places ∙ get_or-set_other x.places (suc q) r (packet_at x q) None ne

      mv : (r : ℕ) → q ≤ r → r < P.shape.depth → (r ≡ q) ⊎ (r ≡ q → ⊥) → packet_at y (suc r) ≡ packet_at m r
      mv r a b (inl e) =
          rw e (ap {B = Option ℕ} (λ (l : List (Option ℕ)). get_or l (suc q) None) h.places ∙ get_or-set_same x.places (suc q) (packet_at x q) None hl ∙ here)
      mv r a b (inr e) = place (suc r) (omega arith) ∙ p.moves r (omega arith) b

      wk : (r : ℕ) → q ≤ r → r < P.shape.depth → (r ≡ q) ⊎ (r ≡ q → ⊥) → values_at P y (suc r) ≡ cond (is_some (packet_at m r)) (P.work (suc r) (values_at P m r) m.words) (values_at P m (suc r))
      wk r a b (inl e) =
          rw e
          (h.works
          ∙ ap {B = Row} (λ (o : Option ℕ). cond (is_some o) (P.work (suc q) (values_at P x q) m.words) (values_at P x (suc q))) here
          ∙ ap₂ {C = Row} (λ (u v : Row). cond (is_some (packet_at m q)) (P.work (suc q) u m.words) v) (p.carried q (omega arith)) (p.carried (suc q) (omega arith))
          )
      wk r a b (inr e) = h.carried (suc r) (omega arith) ∙ p.works r (omega arith) b

      rn : (s r : ℕ) → s < P.shape.states → q ≤ r → r < P.shape.depth → P.shape.stage s ≡ suc r → (r ≡ q) ⊎ (r ≡ q → ⊥) → word_of y s ≡ cond (is_some (packet_at m r)) (P.run s (word_of m s) (values_at P m r)) (word_of m s)
      rn s r hs a b es (inl e) =
          rw e
          (h.runs s hs (omega arith)
          ∙ ap {B = ℕ} (λ (o : Option ℕ). cond (is_some o) (P.run s (word_of m s) (values_at P x q)) (word_of x s)) here
          ∙ ap₂ {C = ℕ} (λ (u : Row) (w : ℕ). cond (is_some (packet_at m q)) (P.run s (word_of m s) u) w) (p.carried q (omega arith)) (p.rests s (λ _ i c d f. absurd (omega arith)))
          )
      rn s r hs a b es (inr e) = h.rests s (λ _ f. absurd (omega arith)) ∙ p.runs s r hs (omega arith) b es

      cn : (r : ℕ) → q ≤ r → r < P.shape.depth → (r ≡ q) ⊎ (r ≡ q → ⊥) → count_at y (suc r) ≡ unwrap_or (packet_at m r) (count_at m (suc r))
      cn r a b (inl e) =
          rw e (h.counts ∙ ap₂ {C = ℕ} (λ (o : Option ℕ) (n : ℕ). unwrap_or o n) here (p.counted (suc q) (omega arith)))
      cn r a b (inr e) = h.others (suc r) (omega arith) ∙ p.counts r (omega arith) b

  -- one place on; the code has k for the place behind q
  pub passing_more : (q k n : ℕ) (m x y : Contents Row) → k ≡ suc q → n ≡ suc q → q < P.shape.depth → k < length x.places → Passing n m x → Moved P m.words q k x y → Passing q m y
  passing_more q k n m x y ek en hq hl p h =
      more q m x y hq (omega arith) (subst (λ (i : ℕ). Passing i m x) en p) (subst (λ (i : ℕ). Moved P m.words q i x y) ek h)

  -- after the last, with the entry emptied
  pub passing_all : (q : ℕ) (m x y : Contents Row) → q ≡ 0 → 0 < length x.places → Passing q m x → y.places ≡ set x.places 0 None → y.carried ≡ x.carried → y.counts ≡ x.counts → y.words ≡ x.words → Ticked P m y
  passing_all q m x y eq hl passing ep er ec ew =
      record {
        entry = ap {B = Option ℕ} (λ (l : List (Option ℕ)). get_or l 0 None) ep ∙ get_or-set_same x.places 0 None None hl;
        moves = λ q h. place (suc q) (omega arith) ∙ p.moves q (omega arith) h;
        works = λ q h. row (suc q) ∙ p.works q (omega arith) h;
        runs = λ s q hs h e. word s ∙ p.runs s q hs (omega arith) h e;
        counts = λ q h. count (suc q) ∙ p.counts q (omega arith) h;
        rests = λ s f. word s ∙ p.rests s (λ hs r a b e. f hs r b e);
        fed = count 0 ∙ p.counted 0 (omega arith);
        first = row 0 ∙ p.carried 0 (omega arith);
        past = λ q h. (place q (omega arith) ∙ (p.past q h).0, row q ∙ (p.past q h).1, count q ∙ (p.past q h).2);
        sizes = same_sizes m x y p.sizes (record { places = ap length ep ∙ length-set x.places 0 None; carried = ap length er; counts = ap length ec; words = ap length ew });
      }
    where
      p : Passing 0 m x
      p = subst (λ (i : ℕ). Passing i m x) eq passing

      place : (r : ℕ) → (r ≡ 0 → ⊥) → packet_at y r ≡ packet_at x r
      place r ne = ap {B = Option ℕ} (λ (l : List (Option ℕ)). get_or l r None) ep ∙ get_or-set_other x.places 0 r None None ne

      row : (r : ℕ) → values_at P y r ≡ values_at P x r
      row r = ap {B = Row} (λ (l : List Row). get_or l r P.blank) er

      count : (r : ℕ) → count_at y r ≡ count_at x r
      count r = ap {B = ℕ} (λ (l : List ℕ). get_or l r 0) ec

      word : (s : ℕ) → word_of y s ≡ word_of x s
      word s = ap {B = ℕ} (λ (l : List ℕ). get_or l s 0) ew

module _ {Row : Type 0} (P : Pipeline Row) (stood : List ℕ) where
  -- a packet moves on with its stage's work: x is m with the packet at both places
  pub moved_some : (q k n : ℕ) (m x y : Contents Row) → packet_at m q ≡ Some n → k < length m.carried → k < length m.counts → x.places ≡ set m.places k (packet_at m q) → x.carried ≡ m.carried → x.counts ≡ m.counts → x.words ≡ m.words → length y.words ≡ length m.words → Passed P stood q k n x y → Moved P stood q k m y
  moved_some q k n m x y e lr lc ep er ec ew lw h =
      record {
        places = h.places ∙ ep;
        works = ap {B = Row} (λ (l : List Row). get_or l k P.blank) rows ∙ get_or-set_same m.carried k (P.work k (values_at P m q) stood) P.blank lr ∙ ap {B = Row} (λ (o : Option ℕ). cond (is_some o) (P.work k (values_at P m q) stood) (values_at P m k)) (sym e);
        carried = λ r ne. ap {B = Row} (λ (l : List Row). get_or l r P.blank) rows ∙ get_or-set_other m.carried k r (P.work k (values_at P m q) stood) P.blank ne;
        counts = ap {B = ℕ} (λ (l : List ℕ). get_or l k 0) counts ∙ get_or-set_same m.counts k n 0 lc ∙ ap {B = ℕ} (λ (o : Option ℕ). unwrap_or o (count_at m k)) (sym e);
        others = λ r ne. ap {B = ℕ} (λ (l : List ℕ). get_or l r 0) counts ∙ get_or-set_other m.counts k r n 0 ne;
        runs = λ s hs es. run s hs ∙ ap {B = ℕ} (λ (b : Bool). cond b (P.run s (get_or stood s 0) (values_at P m q)) (word_of m s)) (eq-eqb (P.shape.stage s) k es) ∙ ap {B = ℕ} (λ (o : Option ℕ). cond (is_some o) (P.run s (get_or stood s 0) (values_at P m q)) (word_of m s)) (sym e);
        rests = λ s f. rest s f (cases_lt s P.shape.states);
        sizes = record { places = ap length (h.places ∙ ep) ∙ length-set m.places k (packet_at m q); carried = ap length rows ∙ length-set m.carried k (P.work k (values_at P m q) stood); counts = ap length counts ∙ length-set m.counts k n; words = lw };
      }
    where
      rows : y.carried ≡ set m.carried k (P.work k (values_at P m q) stood)
      rows = h.carried ∙ ap {B = List Row} (λ (l : List Row). set l k (P.work k (get_or l q P.blank) stood)) er

      counts : y.counts ≡ set m.counts k n
      counts = h.counts ∙ ap {B = List ℕ} (λ (l : List ℕ). set l k n) ec

      run : (s : ℕ) → s < P.shape.states → word_of y s ≡ cond (eqb (P.shape.stage s) k) (P.run s (get_or stood s 0) (values_at P m q)) (word_of m s)
      run s hs = h.runs s hs ∙ ap₂ {C = ℕ} (λ (l : List Row) (v : List ℕ). cond (eqb (P.shape.stage s) k) (P.run s (get_or stood s 0) (get_or l q P.blank)) (get_or v s 0)) er ew

      rest : (s : ℕ) → (s < P.shape.states → P.shape.stage s ≡ k → ⊥) → (s < P.shape.states) ⊎ (P.shape.states ≤ s) → word_of y s ≡ word_of m s
      rest s f (inl hs) = run s hs ∙ ap {B = ℕ} (λ (b : Bool). cond b (P.run s (get_or stood s 0) (values_at P m q)) (word_of m s)) (ne_eqb (P.shape.stage s) k (f hs))
      rest s f (inr hs) = h.rests s hs ∙ ap {B = ℕ} (λ (l : List ℕ). get_or l s 0) ew
