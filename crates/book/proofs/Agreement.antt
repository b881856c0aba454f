-- A machine that agrees with a book answers as it does, and agrees with it after the call. Assumes nothing.
use Rattle.std.proofs.Common.{◌≡◌, ℕ, zero, suc, ◌+◌, ◌<◌, ◌≤◌, Bool, true, false, cond, not, eqb, ltb, ◌⊎◌, List, [], ◌∷◌, ◌++◌, map, length, get_or, is_some, Some, None, Option, unwrap_or, sym, refl, ap, ◌∙◌, subst, ap₂, inl, inr, arith, length-set, get_or-set_other, get_or-set_same, ltb-true, eq-eqb, ne_eqb, eqb-true, le-leb}
use borrow.Author.Tests.{lt-leb}
use Rattle.std.proofs.lemmas.Bool.{cases_eq, cases_order}
use Rattle.std.proofs.lemmas.List.{length-map, get_or-replicate, length-replicate}
use Rattle.std.proofs.ByRecursion.{All-push}
use Rattle.std.specs.List.{AllByRecursion}
use Rattle.transaction.specs.Faults.{refusal}
use Rattle.meaning.specs.Serial.{Values, values}
use Rattle.image.specs.Reading.{Answer}
use Rattle.image.specs.Reading.Answer.{good}
use Rattle.book.specs.Run.{zeroed, words_from, leaving_from, words_after, leaving}
use Rattle.book.specs.Calls.{Call, Outcome, refused_if, feeding, taking}
use Rattle.book.specs.Calls.Call.{Feed, Tick, Take, Peek}
use Rattle.book.specs.Calls.Outcome.{word}
use Rattle.book.specs.Book.{Packet, fields_of, place_of, fed, standing_from, standing, reached, moved, marked, answer, after, turned, answers, ended}
use Rattle.book.specs.Book.Packet.{inside, taken}
use Rattle.book.specs.Pipeline.{Pipeline, Contents, packet_at, values_at, count_at, word_of, Ticked, FedIn, TakenOut, Stepped, reply, Ran}
use Rattle.book.specs.Right.{AllWords, Words, Fits, Finds, Carries, Right}
use Rattle.book.specs.Agrees.{FeedsWords, Lined, Fresh, Carried, Agrees}
use Rattle.book.proofs.Packets.{reached_low, standing_low, not_at, not_later, stands_here, stands_later, reached_entry, reached_within, reached_counted, fields_moved, fields_marked, fed_same, fed_more}
use Rattle.book.proofs.Packets.{standing_moved, entry_moved, lined_moved, reached_moved, standing_fed, entry_fed, reached_fed, entry_reached, lined_fed, exit_marked, standing_marked, reached_marked, lined_marked}
use Rattle.book.proofs.SerialRun.{words_none, words_more}
use Rattle.book.proofs.Cases.{Decided, decided, refused, feeds, ticks, takes, peeks}

zero_words : (n : ℕ) → Words n (zeroed n)
zero_words n = record { size = length-replicate n 0; each = go n }
  where
    go : (n : ℕ) → AllWords (zeroed n)
    go zero i = omega arith
    go (suc n) zero = omega arith
    go (suc n) (suc i) = go n i

module _ {Row : Type 0} (P : Pipeline Row) (one : Values → Values) (R : Right P one) where
  abbrev depth : ℕ
  depth = P.shape.depth

  abbrev states : ℕ
  states = P.shape.states

  abbrev stage : ℕ → ℕ
  stage s = P.shape.stage s

  abbrev Proper : List Packet → Type 0
  Proper b = AllByRecursion (λ (p : Packet). Words P.shape.width (fields_of p)) b

  -- what a packet leaves of the words
  abbrev left : List ℕ → List ℕ → List ℕ
  left fs ws = (one (values fs ws)).words

  fits : (fs ws : List ℕ) → Words P.shape.width fs → Words states ws → Fits P.shape (values fs ws)
  fits fs ws f w = record { fields = f; words = w }

  left_words : (fs ws : List ℕ) → Words P.shape.width fs → Words states ws → Words states (left fs ws)
  left_words fs ws f w = (R.keeps (values fs ws) (fits fs ws f w)).words

  -- the words of the states whose stage is not past u are those of the serial run
  abbrev WordsTo : Contents Row → ℕ → List ℕ → List Packet → Type 0
  WordsTo m u ws b = (s : ℕ) → s < states → stage s ≤ u → word_of m s ≡ get_or (words_from one ws (reached (stage s) b) (fed b)) s 0

  -- past the first packet of the line
  words_behind : (m : Contents Row) (u v : ℕ) (ws : List ℕ) (p : Packet) (b : List Packet) → v ≤ place_of p → v ≤ u → WordsTo m u ws (p ∷ b) → WordsTo m v (left (fields_of p) ws) b
  words_behind m u v ws p b h g x s hs hu = rw (le-leb (stage s) (place_of p) (omega arith)) at (x s hs (omega arith))

  words_past : (m : Contents Row) (u : ℕ) (ws fs : List ℕ) (q : ℕ) (b : List Packet) → q ≡ depth → WordsTo m u ws (taken fs q ∷ b) → WordsTo m u (left fs ws) b
  words_past m u ws fs q b e x s hs hu = rw (le-leb (stage s) q (omega (arith, R.within s hs))) at (x s hs hu)

  -- a word that the packet at q is the next to change is as the packet's serial run finds it
  finds : (m : Contents Row) (u q : ℕ) (ws fs : List ℕ) (b : List Packet) → q ≤ depth → q < u → Lined depth q b → WordsTo m u ws (inside fs q ∷ b) → Finds P (values fs ws) (suc q) m.words
  finds m u q ws fs b h g l x s hs e =
      let z : reached (stage s) (inside fs q ∷ b) ≡ 0 = rw (lt-leb (stage s) q (omega arith)) (reached_low depth q (stage s) b h (omega arith) l) in
      x s hs (omega arith) ∙ ap {B = ℕ} (λ (n : ℕ). get_or (words_from one ws n (fed (inside fs q ∷ b))) s 0) z

  words_idle : (s n : ℕ) (ws : List ℕ) (b : List Packet) → Words states ws → Proper b → s < states → stage s ≡ 0 → get_or (words_from one ws n (fed b)) s 0 ≡ get_or ws s 0
  words_idle s n ws [] w f hs e = refl
  words_idle s zero ws (p ∷ b) w f hs e = refl
  words_idle s (suc n) ws (p ∷ b) w f hs e =
      words_idle s n (left (fields_of p) ws) b (left_words (fields_of p) ws f.0 w) f.1 hs e ∙ R.rests s (values (fields_of p) ws) (fits (fields_of p) ws f.0 w) hs e

  -- a tick
  carried_moved : (m m' : Contents Row) (u n : ℕ) (ws : List ℕ) (b : List Packet) → Ticked P m m' → u ≤ suc depth → Lined depth u b → is_some (standing_from n depth b) ≡ false → ((q : ℕ) → q ≤ depth → is_some (standing_from n q b) ≡ true → is_some (packet_at m q) ≡ true) → WordsTo m u ws b → Carried P one m ws b → Carried P one m' ws (map moved b)
  carried_moved m m' u n ws [] t h l e o x c = tt
  carried_moved m m' u n ws (inside fs q ∷ b) t h l e o x c =
      let ne = not_at depth n q fs b e in
      let lt : q < depth = omega (arith, l.0, ne) in
      let full = o q (omega arith) (stands_here n q fs b) in
      let made : values_at P m' (suc q) ≡ P.work (suc q) (values_at P m q) m.words =
      t.works q lt ∙ ap {B = Row} (λ (t : Bool). cond t (P.work (suc q) (values_at P m q) m.words) (values_at P m (suc q))) full in (
        subst (λ (row : Row). Carries P (values fs ws) (suc q) row) (sym made) (Carries.worked m.words lt c.0 (finds m u q ws fs b (omega arith) l.0 l.1 x)),
        carried_moved m m' q (suc n) (left fs ws) b t (omega arith) l.1 (not_later depth n q fs b e) (λ r hr y. o r hr (stands_later n r q fs b y)) (words_behind m u q ws (inside fs q) b (omega arith) (omega (arith, l.0)) x) c.1,
      )
  carried_moved m m' u n ws (taken fs q ∷ b) t h l e o x c =
      carried_moved m m' u (suc n) (left fs ws) b t h l.2 e o (words_past m u ws fs q b l.0 x) c

  word_moved : (m : Contents Row) (u n j s : ℕ) (ws : List ℕ) (b : List Packet) → Words states ws → Proper b → s < states → stage s ≡ suc j → suc j ≤ depth → u ≤ suc depth → Lined depth u b → Carried P one m ws b → word_of m s ≡ get_or (words_from one ws (reached (suc j) b) (fed b)) s 0 → cond (is_some (standing_from n j b)) (P.run s (word_of m s) (values_at P m j)) (word_of m s) ≡ get_or (words_from one ws (reached j b) (fed b)) s 0
  word_moved m u n j s ws [] w f hs e h g l c x = x
  word_moved m u n j s ws (inside fs q ∷ b) w f hs e h g l c x = go (word_moved m q (suc n) j s (left fs ws) b (left_words fs ws f.0 w) f.1 hs e h (omega (arith, l.0)) l.1 c.1) (cases_order q j)
    where
      go : (word_of m s ≡ get_or (words_from one (left fs ws) (reached (suc j) b) (fed b)) s 0 → cond (is_some (standing_from (suc n) j b)) (P.run s (word_of m s) (values_at P m j)) (word_of m s) ≡ get_or (words_from one (left fs ws) (reached j b) (fed b)) s 0) → (q ≡ j) ⊎ ((q < j) ⊎ (j < q)) → cond (is_some (standing_from n j (inside fs q ∷ b))) (P.run s (word_of m s) (values_at P m j)) (word_of m s) ≡ get_or (words_from one ws (reached j (inside fs q ∷ b)) (fed (inside fs q ∷ b))) s 0
      go rec (inl y) =
          let old : word_of m s ≡ get_or ws s 0 = rw (lt-leb (suc j) q (omega arith), reached_low depth q (suc j) b (omega arith) (omega arith) l.1) at x in
          let row : Carries P (values fs ws) j (values_at P m j) = subst (λ (k : ℕ). Carries P (values fs ws) k (values_at P m k)) y c.0 in
          rw (eq-eqb q j y, le-leb j q (omega arith), reached_low depth q j b (omega arith) (omega arith) l.1, words_none one (left fs ws) (fed b), old) (R.runs s j (values fs ws) (values_at P m j) (fits fs ws f.0 w) hs e row)
      go rec (inr (inl y)) =
          let old : word_of m s ≡ get_or ws s 0 = rw (lt-leb (suc j) q (omega arith), reached_low depth q (suc j) b (omega (arith, l.0)) (omega arith) l.1) at x in
          rw (ne_eqb q j (omega arith), standing_low depth q (suc n) j b (omega (arith, l.0)) (omega arith) l.1, lt-leb j q (omega arith), reached_low depth q j b (omega (arith, l.0)) (omega arith) l.1) old
      go rec (inr (inr y)) =
          let later : word_of m s ≡ get_or (words_from one (left fs ws) (reached (suc j) b) (fed b)) s 0 = rw (le-leb (suc j) q (omega arith)) at x in
          rw (ne_eqb q j (omega arith), le-leb j q (omega arith)) (rec later)
  word_moved m u n j s ws (taken fs q ∷ b) w f hs e h g l c x =
      let later : word_of m s ≡ get_or (words_from one (left fs ws) (reached (suc j) b) (fed b)) s 0 = rw (le-leb (suc j) q (omega (arith, l.0))) at x in
      rw (le-leb j q (omega (arith, l.0))) (word_moved m u (suc n) j s (left fs ws) b (left_words fs ws f.0 w) f.1 hs e h g l.2 c later)

  proper_same : (g : Packet → Packet) → ((p : Packet) → fields_of (g p) ≡ fields_of p) → (b : List Packet) → Proper b → Proper (map g b)
  proper_same g e [] f = tt
  proper_same g e (p ∷ b) f = (subst (λ (fs : List ℕ). Words P.shape.width fs) (sym (e p)) f.0, proper_same g e b f.1)

  agrees_tick : (b : List Packet) (m m' : Contents Row) → is_some (standing depth b) ≡ false → Agrees P one b m → Ticked P m m' → Agrees P one (map moved b) m'
  agrees_tick b m m' e a t =
      record {
        room =
            record {
              places = omega (arith, a.room.places, t.sizes.places);
              carried = omega (arith, a.room.carried, t.sizes.carried);
              counts = omega (arith, a.room.counts, t.sizes.counts);
            };
        lined = lined_moved depth 1 b e a.lined;
        fields = proper_same moved fields_moved b a.fields;
        places = pl;
        counts = co;
        carried = carried_moved m m' (suc depth) 1 (zeroed states) b t (omega arith) a.lined e (λ q h x. ap {B = Bool} is_some (a.places q h) ∙ x) (λ s hs hu. a.words s hs) a.carried;
        words = wo;
      }
    where
      pl : (q : ℕ) → q ≤ depth → packet_at m' q ≡ standing q (map moved b)
      pl zero h = t.entry ∙ sym (entry_moved 1 b)
      pl (suc q) h = t.moves q h ∙ a.places q (omega arith) ∙ sym (standing_moved 1 q b)

      co : (k : ℕ) → k ≤ depth → count_at m' k ≡ reached k (map moved b)
      co zero h = t.fed ∙ a.counts 0 (omega arith) ∙ reached_entry b ∙ sym (length-map b moved) ∙ sym (reached_entry (map moved b))
      co (suc k) h =
          t.counts k h ∙ ap₂ {C = ℕ} (λ (o : Option ℕ) (n : ℕ). unwrap_or o n) (a.places k (omega arith)) (a.counts (suc k) h) ∙ sym (reached_counted depth k b h a.lined) ∙ sym (reached_moved depth (suc depth) k b h a.lined)

      wo : (s : ℕ) → s < states → word_of m' s ≡ get_or (words_after one states (reached (stage s) (map moved b)) (fed (map moved b))) s 0
      wo s hs = go (stage s) refl ∙ ap {B = ℕ} (λ (l : List (List ℕ)). get_or (words_after one states (reached (stage s) (map moved b)) l) s 0) (sym (fed_same moved fields_moved b))
        where
          go : (k : ℕ) → stage s ≡ k → word_of m' s ≡ get_or (words_after one states (reached (stage s) (map moved b)) (fed b)) s 0
          go zero z =
              t.rests s (λ _ q lt y. omega arith) ∙ a.words s hs ∙ words_idle s (reached (stage s) b) (zeroed states) b (zero_words states) a.fields hs z ∙ sym (words_idle s (reached (stage s) (map moved b)) (zeroed states) b (zero_words states) a.fields hs z)
          go (suc j) z =
              let lt : suc j ≤ depth = omega (arith, R.within s hs) in
              let old : word_of m s ≡ get_or (words_after one states (reached (suc j) b) (fed b)) s 0 = a.words s hs ∙ ap {B = ℕ} (λ (k : ℕ). get_or (words_after one states (reached k b) (fed b)) s 0) z in
              t.runs s j hs lt z
              ∙ ap {B = ℕ} (λ (o : Option ℕ). cond (is_some o) (P.run s (word_of m s) (values_at P m j)) (word_of m s)) (a.places j (omega arith))
              ∙ word_moved m (suc depth) 1 j s (zeroed states) b (zero_words states) a.fields hs z lt (omega arith) a.lined a.carried old
              ∙ ap {B = ℕ} (λ (n : ℕ). get_or (words_after one states n (fed b)) s 0) (sym (ap {B = ℕ} (λ (k : ℕ). reached k (map moved b)) z ∙ reached_moved depth (suc depth) j b lt a.lined))

  -- a feed
  module _ (fs : List ℕ) (m m' : Contents Row) (t : FedIn P fs m m') where
    at_entry : 0 < length m.places → packet_at m' 0 ≡ Some (suc (count_at m 0))
    at_entry h = ap {B = Option ℕ} (λ (l : List (Option ℕ)). get_or l 0 None) t.places ∙ get_or-set_same m.places 0 (Some (suc (count_at m 0))) None h

    at_others : (q : ℕ) → packet_at m' (suc q) ≡ packet_at m (suc q)
    at_others q = ap {B = Option ℕ} (λ (l : List (Option ℕ)). get_or l (suc q) None) t.places ∙ get_or-set_other m.places 0 (suc q) (Some (suc (count_at m 0))) None (omega arith)

    values_entry : 0 < length m.carried → values_at P m' 0 ≡ P.enter fs
    values_entry h = ap {B = Row} (λ (l : List Row). get_or l 0 P.blank) t.carried ∙ get_or-set_same m.carried 0 (P.enter fs) P.blank h

    values_others : (q : ℕ) → values_at P m' (suc q) ≡ values_at P m (suc q)
    values_others q = ap {B = Row} (λ (l : List Row). get_or l (suc q) P.blank) t.carried ∙ get_or-set_other m.carried 0 (suc q) (P.enter fs) P.blank (omega arith)

    count_entry : 0 < length m.counts → count_at m' 0 ≡ suc (count_at m 0)
    count_entry h = ap {B = ℕ} (λ (l : List ℕ). get_or l 0 0) t.counts ∙ get_or-set_same m.counts 0 (suc (count_at m 0)) 0 h

    count_others : (q : ℕ) → count_at m' (suc q) ≡ count_at m (suc q)
    count_others q = ap {B = ℕ} (λ (l : List ℕ). get_or l (suc q) 0) t.counts ∙ get_or-set_other m.counts 0 (suc q) (suc (count_at m 0)) 0 (omega arith)

    carried_fed : (n : ℕ) (ws : List ℕ) (b : List Packet) → 0 < length m.carried → is_some (standing_from n 0 b) ≡ false → Carried P one m ws b → Carried P one m' ws (b ++ inside fs 0 ∷ [])
    carried_fed n ws [] y e c = (subst (λ (row : Row). Carries P (values fs ws) 0 row) (sym (values_entry y)) Carries.entered, tt)
    carried_fed n ws (inside gs q ∷ b) y e c =
        (go q (not_at 0 n q gs b e) c.0, carried_fed (suc n) (left gs ws) b y (not_later 0 n q gs b e) c.1)
      where
        go : (q : ℕ) → (q ≡ 0 → ⊥) → Carries P (values gs ws) q (values_at P m q) → Carries P (values gs ws) q (values_at P m' q)
        go zero z x = absurd (z refl)
        go (suc q) z x = subst (λ (row : Row). Carries P (values gs ws) (suc q) row) (sym (values_others q)) x
    carried_fed n ws (taken gs q ∷ b) y e c = carried_fed (suc n) (left gs ws) b y e c

    agrees_feed : (b : List Packet) → Words P.shape.width fs → is_some (standing 0 b) ≡ false → Agrees P one b m → Agrees P one (b ++ inside fs 0 ∷ []) m'
    agrees_feed b w e a =
        record {
          room =
              record {
                places = omega (arith, a.room.places, ap length t.places, length-set m.places 0 (Some (suc (count_at m 0))));
                carried = omega (arith, a.room.carried, ap length t.carried, length-set m.carried 0 (P.enter fs));
                counts = omega (arith, a.room.counts, ap length t.counts, length-set m.counts 0 (suc (count_at m 0)));
              };
          lined = lined_fed depth (suc depth) 1 fs b (omega arith) e a.lined;
          fields = All-push (λ (p : Packet). Words P.shape.width (fields_of p)) b (inside fs 0) a.fields w;
          places = pl;
          counts = co;
          carried = carried_fed 1 (zeroed states) b (omega (arith, a.room.carried)) e a.carried;
          words = wo;
        }
      where
        pl : (q : ℕ) → q ≤ depth → packet_at m' q ≡ standing q (b ++ inside fs 0 ∷ [])
        pl zero h = at_entry (omega (arith, a.room.places)) ∙ ap Some (ap suc (a.counts 0 (omega arith) ∙ reached_entry b) ∙ omega arith) ∙ sym (entry_fed 1 fs b e)
        pl (suc q) h = at_others q ∙ a.places (suc q) h ∙ sym (standing_fed 1 q fs b)

        co : (k : ℕ) → k ≤ depth → count_at m' k ≡ reached k (b ++ inside fs 0 ∷ [])
        co zero h = count_entry (omega (arith, a.room.counts)) ∙ ap suc (a.counts 0 h) ∙ sym (entry_reached fs b)
        co (suc k) h = count_others k ∙ a.counts (suc k) h ∙ sym (reached_fed k fs b)

        wo : (s : ℕ) → s < states → word_of m' s ≡ get_or (words_after one states (reached (stage s) (b ++ inside fs 0 ∷ [])) (fed (b ++ inside fs 0 ∷ []))) s 0
        wo s hs = ap {B = ℕ} (λ (l : List ℕ). get_or l s 0) t.words ∙ a.words s hs ∙ go (stage s) refl
          where
            go : (k : ℕ) → stage s ≡ k → get_or (words_after one states (reached (stage s) b) (fed b)) s 0 ≡ get_or (words_after one states (reached (stage s) (b ++ inside fs 0 ∷ [])) (fed (b ++ inside fs 0 ∷ []))) s 0
            go zero z =
                words_idle s (reached (stage s) b) (zeroed states) b (zero_words states) a.fields hs z
                ∙ sym (words_idle s (reached (stage s) (b ++ inside fs 0 ∷ [])) (zeroed states) (b ++ inside fs 0 ∷ []) (zero_words states) (All-push (λ (p : Packet). Words P.shape.width (fields_of p)) b (inside fs 0) a.fields w) hs z)
            go (suc k) z =
                rw (z, reached_fed k fs b, fed_more fs b, words_more one (zeroed states) (reached (suc k) b) (fed b) (fs ∷ []) (omega (arith, reached_within (suc k) b, length-map b fields_of)))

  -- a take
  carried_marked : (m m' : Contents Row) (ws : List ℕ) (b : List Packet) → m'.carried ≡ m.carried → Carried P one m ws b → Carried P one m' ws (map (marked depth) b)
  carried_marked m m' ws [] t c = tt
  carried_marked m m' ws (inside fs q ∷ b) t c = go (carried_marked m m' (left fs ws) b t c.1) (eqb q depth)
    where
      go : Carried P one m' (left fs ws) (map (marked depth) b) → (x : Bool) → Carried P one m' ws (cond x (taken fs q) (inside fs q) ∷ map (marked depth) b)
      go rec true = rec
      go rec false = (subst (λ (l : List Row). Carries P (values fs ws) q (get_or l q P.blank)) (sym t) c.0, rec)
  carried_marked m m' ws (taken fs q ∷ b) t c = carried_marked m m' (left fs ws) b t c

  agrees_take : (b : List Packet) (m m' : Contents Row) → Agrees P one b m → TakenOut P m m' → Agrees P one (map (marked depth) b) m'
  agrees_take b m m' a t =
      record {
        room =
            record {
              places = omega (arith, a.room.places, ap length t.places, length-set m.places depth None);
              carried = omega (arith, a.room.carried, ap length t.carried);
              counts = omega (arith, a.room.counts, ap length t.counts);
            };
        lined = lined_marked depth b a.lined;
        fields = proper_same (marked depth) (fields_marked depth) b a.fields;
        places = λ q h. pl q h (cases_eq q depth);
        counts = λ k h. ap {B = ℕ} (λ (l : List ℕ). get_or l k 0) t.counts ∙ a.counts k h ∙ sym (reached_marked depth k b);
        carried = carried_marked m m' (zeroed states) b t.carried a.carried;
        words = wo;
      }
    where
      pl : (q : ℕ) → q ≤ depth → (q ≡ depth) ⊎ (q ≡ depth → ⊥) → packet_at m' q ≡ standing q (map (marked depth) b)
      pl q h (inl e) = rw e (ap {B = Option ℕ} (λ (l : List (Option ℕ)). get_or l depth None) t.places ∙ get_or-set_same m.places depth None None a.room.places ∙ sym (exit_marked depth 1 b))
      pl q h (inr e) = ap {B = Option ℕ} (λ (l : List (Option ℕ)). get_or l q None) t.places ∙ get_or-set_other m.places depth q None None e ∙ a.places q h ∙ sym (standing_marked depth 1 q b e)

      wo : (s : ℕ) → s < states → word_of m' s ≡ get_or (words_after one states (reached (stage s) (map (marked depth) b)) (fed (map (marked depth) b))) s 0
      wo s hs =
          ap {B = ℕ} (λ (l : List ℕ). get_or l s 0) t.words ∙ a.words s hs
          ∙ ap₂ {C = ℕ} (λ (n : ℕ) (l : List (List ℕ)). get_or (words_after one states n l) s 0) (sym (reached_marked depth (stage s) b)) (sym (fed_same (marked depth) (fields_marked depth) b))

  -- the packet at the exit leaves with the fields of its serial run
  leaves : (m : Contents Row) (n i : ℕ) (ws : List ℕ) (b : List Packet) → Words states ws → Proper b → Carried P one m ws b → standing_from n depth b ≡ Some i → (j : ℕ) × (i ≡ n + j) × (P.leave (values_at P m depth) ≡ leaving_from one ws (suc j) (fed b))
  leaves m n i ws [] w f c e = absurd (let z : ◌≡◌ {A = ℕ} 0 1 = cc in omega arith)
  leaves m n i ws (inside fs q ∷ b) w f c e = go (leaves m (suc n) i (left fs ws) b (left_words fs ws f.0 w) f.1 c.1) (eqb q depth) refl e
    where
      go : (standing_from (suc n) depth b ≡ Some i → (j : ℕ) × (i ≡ suc n + j) × (P.leave (values_at P m depth) ≡ leaving_from one (left fs ws) (suc j) (fed b))) → (t : Bool) → eqb q depth ≡ t → cond t (Some n) (standing_from (suc n) depth b) ≡ Some i → (j : ℕ) × (i ≡ n + j) × (P.leave (values_at P m depth) ≡ leaving_from one ws (suc j) (fs ∷ fed b))
      go rec true x e =
          let number : n ≡ i = cc in
          let row = subst (λ (k : ℕ). Carries P (values fs ws) k (values_at P m k)) (eqb-true q depth x) c.0 in
          (0, omega (arith, number), R.leaves (values fs ws) (values_at P m depth) (fits fs ws f.0 w) row)
      go rec false x e = let r = rec e in (suc r.0, omega (arith, r.1), r.2)
  leaves m n i ws (taken fs q ∷ b) w f c e = let r = leaves m (suc n) i (left fs ws) b (left_words fs ws f.0 w) f.1 c e in (suc r.0, omega (arith, r.1), r.2)

  -- the answer
  answers_as_book : (c : Call) (b : List Packet) (m : Contents Row) → Agrees P one b m → reply P c m ≡ answer P.shape one c b
  answers_as_book (Feed fs) b m a =
      ap₂ {C = Answer Outcome} (λ (n : ℕ) (o : Option ℕ). feeding P.shape.width (length fs) n (is_some o)) (a.counts 0 (omega arith) ∙ reached_entry b) (a.places 0 (omega arith))
  answers_as_book Tick b m a = rw (a.places depth (omega arith))
  answers_as_book (Take n) b m a = rw (a.places depth (omega arith)) (go (standing depth b) refl)
    where
      go : (o : Option ℕ) → standing depth b ≡ o → taking P.shape.width n depth (is_some o) (P.leave (values_at P m depth)) ≡ taking P.shape.width n depth (is_some o) (leaving one states (unwrap_or o 0) (fed b))
      go None e = refl
      go (Some i) e =
          let r = leaves m 1 i (zeroed states) b (zero_words states) a.fields a.carried e in
          let number : i ≡ suc r.0 = omega (arith, r.1) in
          ap {B = Answer Outcome} (λ (fs : List ℕ). taking P.shape.width n depth true fs) (r.2 ∙ ap {B = List ℕ} (λ (k : ℕ). leaving one states k (fed b)) (sym number))
  answers_as_book (Peek s) b m a = go (ltb s states) refl
    where
      go : (t : Bool) → ltb s states ≡ t → refused_if (not t) (refusal 16 s) (good (word (word_of m s) (count_at m (stage s)))) ≡ refused_if (not t) (refusal 16 s) (good (word (get_or (words_after one states (reached (stage s) b) (fed b)) s 0) (reached (stage s) b)))
      go true e =
          let hs = ltb-true s states e in
          ap₂ {C = Answer Outcome} (λ (x n : ℕ). good (word x n)) (a.words s hs) (a.counts (stage s) (R.within s hs))
      go false e = refl

  same : (b : List Packet) (m m' : Contents Row) → Agrees P one b m → m' ≡ m → Agrees P one b m'
  same b m m' a e = subst (λ (x : Contents Row). Agrees P one b x) (sym e) a

  agrees_after : (c : Call) (b : List Packet) (m m' : Contents Row) (r : Answer Outcome) → FeedsWords c → Decided P.shape one b c r → Agrees P one b m → Stepped P r c m m' → Agrees P one (after P.shape one r c b) m'
  agrees_after c b m m' r w refused a t = same b m m' a t
  agrees_after c b m m' r w (feeds {fs} n e) a t = agrees_feed fs m m' t b (record { size = n; each = w }) e a
  agrees_after c b m m' r w (ticks e) a t = agrees_tick b m m' e a t
  agrees_after c b m m' r w (takes i e) a t = agrees_take b m m' a t
  agrees_after c b m m' r w (peeks h) a t = same b m m' a t

  -- one call
  pub one_call : (c : Call) → FeedsWords c → (b : List Packet) (m m' : Contents Row) → Agrees P one b m → Stepped P (reply P c m) c m m' → (reply P c m ≡ answer P.shape one c b) × Agrees P one (turned P.shape one c b) m'
  one_call c w b m m' a t =
      let e = answers_as_book c b m a in
      (e, agrees_after c b m m' (answer P.shape one c b) w (decided P.shape one c b) a (subst (λ (x : Answer Outcome). Stepped P x c m m') e t))

  -- one call after another
  pub calls_from : (cs : List Call) (b : List Packet) (m m' : Contents Row) (rs : List (Answer Outcome)) → AllByRecursion FeedsWords cs → Agrees P one b m → Ran P cs m rs m' → (rs ≡ answers P.shape one cs b) × Agrees P one (ended P.shape one cs b) m'
  calls_from cs b m m' rs w a (Ran.none) = (refl, a)
  calls_from cs b m m' rs w a (Ran.next {c = c} {cs = ds} {m = k} {m' = k'} {rs = qs} t r) =
      let x = one_call c w.0 b k k' a t in
      let y = calls_from ds (turned P.shape one c b) k' m' qs w.1 x.1 r in
      (ap₂ ◌∷◌ x.0 y.0, y.1)

  -- a machine at its start agrees with the empty book
  pub fresh_agrees : (m : Contents Row) → Fresh P m → Agrees P one [] m
  fresh_agrees m z =
      record {
        room = z.room;
        lined = tt;
        fields = tt;
        places = z.places;
        counts = z.counts;
        carried = tt;
        words = λ s hs. z.words s hs ∙ sym (get_or-replicate states s 0 0 hs);
      }
