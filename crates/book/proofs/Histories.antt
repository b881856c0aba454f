-- The book of a run: its packets, places and marks are those that the calls and answers tell. Assumes nothing.
use Rattle.std.proofs.Common.{◌≡◌, ℕ, zero, suc, ◌+◌, ◌<◌, ◌≤◌, Bool, true, false, cond, eqb, ◌⊎◌, List, [], ◌∷◌, ◌++◌, map, length, get_or, is_some, Some, None, sym, refl, ap, ◌∙◌, ap₂, inl, inr, add-zero, arith, eq-eqb, ne_eqb, le-leb}
use Rattle.std.proofs.lemmas.List.{append-nil, append_assoc, length-map, length_push, get_or_append_left, get_or_push}
use Rattle.std.proofs.lemmas.Bool.{cases_lt}
use Rattle.transaction.specs.declared.refusal.Refusal.{Refusal}
use Rattle.meaning.specs.Serial.{Values}
use Rattle.image.specs.Reading.{Answer}
use Rattle.image.specs.Reading.Answer.{good, bad}
use Rattle.book.specs.Run.{zeroed, leaving}
use Rattle.book.specs.Calls.{Call, Outcome}
use Rattle.book.specs.Calls.Call.{Feed, Tick, Take, Peek}
use Rattle.book.specs.Calls.Outcome.{done, packet}
use Rattle.book.specs.Book.{Shape, Packet, fields_of, fed, standing_from, standing, reached, moved, marked, after}
use Rattle.book.specs.Book.Packet.{inside, taken}
use Rattle.book.specs.Agrees.{Lined}
use Rattle.book.specs.Laws.{Exchange, exchange, fed_by, ticks_by, taken_by, fed_in, ticks_in, taken_in, ticks_since, at_least}
use Rattle.book.proofs.Packets.{standing_low, fields_moved, fields_marked, fed_same, fed_more, lined_moved, lined_fed, lined_marked}
use Rattle.book.proofs.SerialRun.{leaving_more}
use Rattle.book.proofs.Cases.{Decided, refused, feeds, ticks, takes, peeks}

-- one exchange more
pub fed_push : (run : List Exchange) (x : Exchange) → fed_in (run ++ x ∷ []) ≡ fed_in run ++ fed_by x.call x.answer
fed_push [] x = append-nil (fed_by x.call x.answer)
fed_push (y ∷ run) x = ap {B = List (List ℕ)} (λ (l : List (List ℕ)). fed_by y.call y.answer ++ l) (fed_push run x) ∙ sym (append_assoc (fed_by y.call y.answer) (fed_in run) (fed_by x.call x.answer))

taken_push : (run : List Exchange) (x : Exchange) → taken_in (run ++ x ∷ []) ≡ taken_in run ++ taken_by x.answer
taken_push [] x = append-nil (taken_by x.answer)
taken_push (y ∷ run) x = ap {B = List (List ℕ)} (λ (l : List (List ℕ)). taken_by y.answer ++ l) (taken_push run x) ∙ sym (append_assoc (taken_by y.answer) (taken_in run) (taken_by x.answer))

ticks_push : (run : List Exchange) (x : Exchange) → ticks_in (run ++ x ∷ []) ≡ ticks_in run + ticks_by x.call x.answer
ticks_push [] x = omega arith
ticks_push (y ∷ run) x = omega (arith, ticks_push run x)

since_front : (l : List (List ℕ)) (a t n : ℕ) (ns rest : List ℕ) → a ≡ n + t → map (λ _. a) l ++ (map (λ k. k + t) ns ++ rest) ≡ map (λ k. k + t) (map (λ _. n) l ++ ns) ++ rest
since_front [] a t n ns rest e = refl
since_front (f ∷ l) a t n ns rest e = ap₂ {C = List ℕ} (λ (x : ℕ) (r : List ℕ). x ∷ r) e (since_front l a t n ns rest e)

since_push : (run : List Exchange) (x : Exchange) → ticks_since (run ++ x ∷ []) ≡ map (λ n. n + ticks_by x.call x.answer) (ticks_since run) ++ map (λ _. 0) (fed_by x.call x.answer)
since_push [] x = append-nil (map (λ _. 0) (fed_by x.call x.answer))
since_push (y ∷ run) x =
    ap {B = List ℕ} (λ (l : List ℕ). map (λ _. ticks_in (run ++ x ∷ [])) (fed_by y.call y.answer) ++ l) (since_push run x)
    ∙ since_front (fed_by y.call y.answer) (ticks_in (run ++ x ∷ [])) (ticks_by x.call x.answer) (ticks_in run) (ticks_since run) (map (λ _. 0) (fed_by x.call x.answer)) (ticks_push run x)

no_tick : (ns : List ℕ) → map (λ n. n + 0) ns ≡ ns
no_tick [] = refl
no_tick (n ∷ ns) = ap₂ {C = List ℕ} (λ (x : ℕ) (l : List ℕ). x ∷ l) (add-zero n) (no_tick ns)

-- the places of the packets, by the ticks since each was fed: a packet that is taken stayed behind
abbrev Walked : List Packet → List ℕ → Type 0
Walked [] [] = Unit {0}
Walked [] (n ∷ ns) = ⊥
Walked (p ∷ b) [] = ⊥
Walked (inside fs q ∷ b) (n ∷ ns) = (q ≡ n) × Walked b ns
Walked (taken fs q ∷ b) (n ∷ ns) = (q ≤ n) × Walked b ns

walked_moved : (b : List Packet) (ns : List ℕ) → Walked b ns → Walked (map moved b) (map (λ n. n + 1) ns)
walked_moved [] [] h = tt
walked_moved [] (n ∷ ns) h = h
walked_moved (inside fs q ∷ b) [] h = h
walked_moved (taken fs q ∷ b) [] h = h
walked_moved (inside fs q ∷ b) (n ∷ ns) h = (omega (arith, h.0), walked_moved b ns h.1)
walked_moved (taken fs q ∷ b) (n ∷ ns) h = (omega (arith, h.0), walked_moved b ns h.1)

walked_fed : (fs : List ℕ) (b : List Packet) (ns : List ℕ) → Walked b ns → Walked (b ++ inside fs 0 ∷ []) (ns ++ 0 ∷ [])
walked_fed fs [] [] h = (refl, tt)
walked_fed fs [] (n ∷ ns) h = absurd h
walked_fed fs (inside gs q ∷ b) [] h = absurd h
walked_fed fs (taken gs q ∷ b) [] h = absurd h
walked_fed fs (inside gs q ∷ b) (n ∷ ns) h = (h.0, walked_fed fs b ns h.1)
walked_fed fs (taken gs q ∷ b) (n ∷ ns) h = (h.0, walked_fed fs b ns h.1)

walked_marked : (d : ℕ) (b : List Packet) (ns : List ℕ) → Walked b ns → Walked (map (marked d) b) ns
walked_marked d [] [] h = tt
walked_marked d [] (n ∷ ns) h = h
walked_marked d (inside fs q ∷ b) [] h = absurd h
walked_marked d (taken fs q ∷ b) [] h = h
walked_marked d (inside fs q ∷ b) (n ∷ ns) h = go (walked_marked d b ns h.1) (eqb q d)
  where
    go : Walked (map (marked d) b) ns → (t : Bool) → Walked (cond t (taken fs q) (inside fs q) ∷ map (marked d) b) (n ∷ ns)
    go rec true = (omega (arith, h.0), rec)
    go rec false = (h.0, rec)
walked_marked d (taken fs q ∷ b) (n ∷ ns) h = (h.0, walked_marked d b ns h.1)

-- how many have reached a place, by the ticks since
pub reached_since : (d u k : ℕ) (b : List Packet) (ns : List ℕ) → k ≤ d → Lined d u b → Walked b ns → reached k b ≡ at_least k ns
reached_since d u k [] [] h l w = refl
reached_since d u k [] (n ∷ ns) h l w = absurd w
reached_since d u k (inside fs q ∷ b) [] h l w = absurd w
reached_since d u k (taken fs q ∷ b) [] h l w = absurd w
reached_since d u k (inside fs q ∷ b) (n ∷ ns) h l w = rw (w.0, reached_since d q k b ns h l.1 w.1)
reached_since d u k (taken fs q ∷ b) (n ∷ ns) h l w =
    rw (le-leb k q (omega (arith, l.0)), le-leb k n (omega (arith, l.0, w.0)), reached_since d u k b ns h l.2 w.1)

-- how many packets at the front are taken
abbrev front : List Packet → ℕ
front [] = 0
front (inside fs q ∷ b) = 0
front (taken fs q ∷ b) = suc (front b)

pub front_within : (b : List Packet) → front b ≤ length b
front_within [] = omega arith
front_within (inside fs q ∷ b) = omega arith
front_within (taken fs q ∷ b) = omega (arith, front_within b)

front_moved : (b : List Packet) → front (map moved b) ≡ front b
front_moved [] = refl
front_moved (inside fs q ∷ b) = refl
front_moved (taken fs q ∷ b) = ap suc (front_moved b)

front_fed : (fs : List ℕ) (b : List Packet) → front (b ++ inside fs 0 ∷ []) ≡ front b
front_fed fs [] = refl
front_fed fs (inside gs q ∷ b) = refl
front_fed fs (taken gs q ∷ b) = ap suc (front_fed fs b)

front_low : (d u : ℕ) (b : List Packet) → u ≤ d → Lined d u b → front (map (marked d) b) ≡ 0
front_low d u [] h l = refl
front_low d u (inside fs q ∷ b) h l = rw (ne_eqb q d (omega (arith, l.0)))
front_low d u (taken fs q ∷ b) h l = absurd (omega (arith, l.1))

-- the one at the exit is the first that is not taken
first_out : (d n i : ℕ) (b : List Packet) → Lined d (suc d) b → standing_from n d b ≡ Some i → (i ≡ n + front b) × (front b < length b) × (front (map (marked d) b) ≡ suc (front b))
first_out d n i [] l e = absurd (let z : ◌≡◌ {A = ℕ} 0 1 = cc in omega arith)
first_out d n i (inside fs q ∷ b) l e = go (eqb q d) refl e
  where
    go : (t : Bool) → eqb q d ≡ t → cond t (Some n) (standing_from (suc n) d b) ≡ Some i → (i ≡ n + 0) × (0 < suc (length b)) × (front (cond t (taken fs q) (inside fs q) ∷ map (marked d) b) ≡ 1)
    go true x y = let k : n ≡ i = cc in (omega arith, omega arith, ap suc (front_low d q b (omega (arith, l.0)) l.1))
    go false x y =
        let z = standing_low d q (suc n) d b (omega (arith, l.0)) (omega (arith, l.0)) l.1 in
        absurd (let w : ◌≡◌ {A = ℕ} 0 1 = cc in omega arith)
first_out d n i (taken fs q ∷ b) l e = let r = first_out d (suc n) i b l.2 e in (omega (arith, r.0), omega (arith, r.1), ap suc r.2)

-- a packet that is not taken stands where the ticks since put it
pub stands_at : (d u n i : ℕ) (b : List Packet) (ns : List ℕ) → u ≤ suc d → Lined d u b → Walked b ns → front b ≤ i → i < length b → (get_or ns i 0 < u) × (standing_from n (get_or ns i 0) b ≡ Some (n + i))
stands_at d u n i [] ns h l w a z = absurd (omega arith)
stands_at d u n i (inside fs q ∷ b) [] h l w a z = absurd w
stands_at d u n i (taken fs q ∷ b) [] h l w a z = absurd w
stands_at d u n zero (inside fs q ∷ b) (x ∷ ns) h l w a z = (omega (arith, l.0, w.0), rw (eq-eqb q x w.0) (ap Some (omega arith)))
stands_at d u n (suc i) (inside fs q ∷ b) (x ∷ ns) h l w a z = go (stands_at d q (suc n) i b ns (omega (arith, l.0)) l.1 w.1 (none_behind b l.1) (omega arith))
  where
    none_behind : (b : List Packet) → Lined d q b → front b ≤ i
    none_behind [] k = omega arith
    none_behind (inside gs r ∷ b) k = omega arith
    none_behind (taken gs r ∷ b) k = absurd (omega (arith, l.0, k.1))

    go : (get_or ns i 0 < q) × (standing_from (suc n) (get_or ns i 0) b ≡ Some (suc n + i)) → (get_or ns i 0 < u) × (standing_from n (get_or ns i 0) (inside fs q ∷ b) ≡ Some (n + suc i))
    go r = (omega (arith, r.0, l.0), rw (ne_eqb q (get_or ns i 0) (omega (arith, r.0))) (r.1 ∙ ap Some (omega arith)))
stands_at d u n zero (taken fs q ∷ b) (x ∷ ns) h l w a z = absurd (omega arith)
stands_at d u n (suc i) (taken fs q ∷ b) (x ∷ ns) h l w a z =
    let r = stands_at d u (suc n) i b ns h l.2 w.1 (omega arith) (omega arith) in
    (r.0, r.1 ∙ ap Some (omega arith))

-- nobody else stands anywhere
pub nobody_at : (n q : ℕ) (b : List Packet) (ns : List ℕ) → Walked b ns → ((i : ℕ) → front b ≤ i → i < length b → get_or ns i 0 ≡ q → ⊥) → standing_from n q b ≡ None
nobody_at n q [] ns w h = refl
nobody_at n q (inside fs r ∷ b) [] w h = absurd w
nobody_at n q (taken fs r ∷ b) [] w h = absurd w
nobody_at n q (inside fs r ∷ b) (x ∷ ns) w h =
    rw (ne_eqb r q (λ e. h 0 (omega arith) (omega arith) (sym w.0 ∙ e))) (nobody_at (suc n) q b ns w.1 (λ i a z e. h (suc i) (omega arith) (omega arith) e))
nobody_at n q (taken fs r ∷ b) (x ∷ ns) w h = nobody_at (suc n) q b ns w.1 (λ i a z e. h (suc i) (omega arith) (omega arith) e)

module _ (shape : Shape) (one : Values → Values) where
  -- packets fed, ticks since each, packets taken, and the book
  pub record Kept (ps : List (List ℕ)) (ns : List ℕ) (out : List (List ℕ)) (b : List Packet) : Type 0 where
    pub packets : ps ≡ fed b
    pub lined : Lined shape.depth (suc shape.depth) b
    pub walked : Walked b ns
    pub gone : length out ≡ front b
    pub order : (n : ℕ) → n < length out → get_or out n [] ≡ leaving one shape.states (suc n) ps

  abbrev pub KeptBy : List Exchange → List Packet → Type 0
  KeptBy run b = Kept (fed_in run) (ticks_since run) (taken_in run) b

  pub kept_none : KeptBy [] []
  kept_none = record { packets = refl; lined = tt; walked = tt; gone = refl; order = λ n h. absurd (omega arith) }

  kept_along : (ps ps' : List (List ℕ)) (ns ns' : List ℕ) (out out' : List (List ℕ)) (b : List Packet) → ps' ≡ ps → ns' ≡ ns → out' ≡ out → Kept ps ns out b → Kept ps' ns' out' b
  kept_along ps ps' ns ns' out out' b e f g k = rw (e, f, g) k

  kept_fed : (fs : List ℕ) (ps : List (List ℕ)) (ns : List ℕ) (out : List (List ℕ)) (b : List Packet) → is_some (standing 0 b) ≡ false → Kept ps ns out b → Kept (ps ++ fs ∷ []) (ns ++ 0 ∷ []) out (b ++ inside fs 0 ∷ [])
  kept_fed fs ps ns out b e k =
      record {
        packets = ap {B = List (List ℕ)} (λ (l : List (List ℕ)). l ++ fs ∷ []) k.packets ∙ sym (fed_more fs b);
        lined = lined_fed shape.depth (suc shape.depth) 1 fs b (omega arith) e k.lined;
        walked = walked_fed fs b ns k.walked;
        gone = k.gone ∙ sym (front_fed fs b);
        order = λ n h. k.order n h ∙ sym (leaving_more one (zeroed shape.states) n ps (fs ∷ []) (omega (arith, h, k.gone, front_within b, ap length k.packets, length-map b fields_of)));
      }

  kept_moved : (ps : List (List ℕ)) (ns : List ℕ) (out : List (List ℕ)) (b : List Packet) → is_some (standing shape.depth b) ≡ false → Kept ps ns out b → Kept ps (map (λ n. n + 1) ns) out (map moved b)
  kept_moved ps ns out b e k =
      record {
        packets = k.packets ∙ sym (fed_same moved fields_moved b);
        lined = lined_moved shape.depth 1 b e k.lined;
        walked = walked_moved b ns k.walked;
        gone = k.gone ∙ sym (front_moved b);
        order = k.order;
      }

  kept_marked : (i : ℕ) (ps : List (List ℕ)) (ns : List ℕ) (out : List (List ℕ)) (b : List Packet) → standing shape.depth b ≡ Some i → Kept ps ns out b → Kept ps ns (out ++ leaving one shape.states i (fed b) ∷ []) (map (marked shape.depth) b)
  kept_marked i ps ns out b e k =
      record {
        packets = k.packets ∙ sym (fed_same (marked shape.depth) (fields_marked shape.depth) b);
        lined = lined_marked shape.depth b k.lined;
        walked = walked_marked shape.depth b ns k.walked;
        gone = length_push out (leaving one shape.states i (fed b)) ∙ omega (arith, k.gone, first.2);
        order = λ n h. go n h (cases_lt n (length out));
      }
    where
      first : (i ≡ 1 + front b) × (front b < length b) × (front (map (marked shape.depth) b) ≡ suc (front b))
      first = first_out shape.depth 1 i b k.lined e

      go : (n : ℕ) → n < length (out ++ leaving one shape.states i (fed b) ∷ []) → (n < length out) ⊎ (length out ≤ n) → get_or (out ++ leaving one shape.states i (fed b) ∷ []) n [] ≡ leaving one shape.states (suc n) ps
      go n h (inl x) = get_or_append_left out (leaving one shape.states i (fed b) ∷ []) [] n x ∙ k.order n x
      go n h (inr x) =
          let here : length out ≡ n = omega (arith, h, x, length_push out (leaving one shape.states i (fed b))) in
          let number : i ≡ suc n = omega (arith, here, k.gone, first.0) in
          get_or_push out (leaving one shape.states i (fed b)) [] n here ∙ ap₂ {C = List ℕ} (λ (j : ℕ) (l : List (List ℕ)). leaving one shape.states j l) number (sym k.packets)

  -- an exchange that neither feeds nor ticks nor takes
  quiet : (run : List Exchange) (x : Exchange) (b : List Packet) → fed_by x.call x.answer ≡ [] → ticks_by x.call x.answer ≡ 0 → taken_by x.answer ≡ [] → KeptBy run b → KeptBy (run ++ x ∷ []) b
  quiet run x b e f g k =
      kept_along (fed_in run) (fed_in (run ++ x ∷ [])) (ticks_since run) (ticks_since (run ++ x ∷ [])) (taken_in run) (taken_in (run ++ x ∷ [])) b
      (fed_push run x ∙ ap {B = List (List ℕ)} (λ (l : List (List ℕ)). fed_in run ++ l) e ∙ append-nil (fed_in run))
      (since_push run x ∙ ap₂ {C = List ℕ} (λ (t : ℕ) (l : List (List ℕ)). map (λ n. n + t) (ticks_since run) ++ map (λ _. 0) l) f e ∙ append-nil (map (λ n. n + 0) (ticks_since run)) ∙ no_tick (ticks_since run))
      (taken_push run x ∙ ap {B = List (List ℕ)} (λ (l : List (List ℕ)). taken_in run ++ l) g ∙ append-nil (taken_in run))
      k

  none_fed : (c : Call) (r : Refusal) → fed_by c (bad r) ≡ []
  none_fed (Feed fs) r = refl
  none_fed Tick r = refl
  none_fed (Take n) r = refl
  none_fed (Peek s) r = refl

  none_ticked : (c : Call) (r : Refusal) → ticks_by c (bad r) ≡ 0
  none_ticked (Feed fs) r = refl
  none_ticked Tick r = refl
  none_ticked (Take n) r = refl
  none_ticked (Peek s) r = refl

  -- one exchange more, as the book decides
  pub kept_more : (run : List Exchange) (b : List Packet) (c : Call) (r : Answer Outcome) → Decided shape one b c r → KeptBy run b → KeptBy (run ++ exchange c r ∷ []) (after shape one r c b)
  kept_more run b c r (refused {r = q}) k = quiet run (exchange c (bad q)) b (none_fed c q) (none_ticked c q) refl k
  kept_more run b c r (feeds {fs} n e) k =
      let x = exchange (Feed fs) (good done) in
      kept_along (fed_in run ++ fs ∷ []) (fed_in (run ++ x ∷ [])) (ticks_since run ++ 0 ∷ []) (ticks_since (run ++ x ∷ [])) (taken_in run) (taken_in (run ++ x ∷ [])) (b ++ inside fs 0 ∷ [])
      (fed_push run x)
      (since_push run x ∙ ap {B = List ℕ} (λ (l : List ℕ). l ++ 0 ∷ []) (no_tick (ticks_since run)))
      (taken_push run x ∙ append-nil (taken_in run))
      (kept_fed fs (fed_in run) (ticks_since run) (taken_in run) b e k)
  kept_more run b c r (ticks e) k =
      let x = exchange Tick (good done) in
      kept_along (fed_in run) (fed_in (run ++ x ∷ [])) (map (λ n. n + 1) (ticks_since run)) (ticks_since (run ++ x ∷ [])) (taken_in run) (taken_in (run ++ x ∷ [])) (map moved b)
      (fed_push run x ∙ append-nil (fed_in run))
      (since_push run x ∙ append-nil (map (λ n. n + 1) (ticks_since run)))
      (taken_push run x ∙ append-nil (taken_in run))
      (kept_moved (fed_in run) (ticks_since run) (taken_in run) b e k)
  kept_more run b c r (takes {n} i e) k =
      let fs = leaving one shape.states i (fed b) in
      let x = exchange (Take n) (good (packet fs)) in
      kept_along (fed_in run) (fed_in (run ++ x ∷ [])) (ticks_since run) (ticks_since (run ++ x ∷ [])) (taken_in run ++ fs ∷ []) (taken_in (run ++ x ∷ [])) (map (marked shape.depth) b)
      (fed_push run x ∙ append-nil (fed_in run))
      (since_push run x ∙ append-nil (map (λ n. n + 0) (ticks_since run)) ∙ no_tick (ticks_since run))
      (taken_push run x)
      (kept_marked i (fed_in run) (ticks_since run) (taken_in run) b e k)
  kept_more run b c r (peeks {s} h) k = quiet run (exchange (Peek s) r) b refl refl refl k
