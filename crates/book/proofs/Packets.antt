-- What the packets of a book keep under a tick, a feed and a take. Assumes nothing.
use Rattle.std.proofs.Common.{◌≡◌, ℕ, suc, ◌+◌, ◌<◌, ◌≤◌, Bool, true, false, cond, eqb, leb, ◌⊎◌, List, [], ◌∷◌, ◌++◌, map, length, is_some, Some, None, Option, unwrap_or, sym, refl, ap, ◌∙◌, ap₂, inl, inr, arith, eq-eqb, ne_eqb, eqb-true, le-leb}
use lib.Dec.{eqb-suc-suc, eqb-suc-zero, eqb-zero-suc, leb-suc-suc, leb-zero, leb-suc-zero}
use borrow.Author.Tests.{lt-leb}
use Rattle.std.proofs.lemmas.Bool.{cases_order, true≢false}
use Rattle.book.specs.Book.{Packet, fields_of, place_of, fed, standing_from, reached, moved, marked}
use Rattle.book.specs.Book.Packet.{inside, taken}
use Rattle.book.specs.Agrees.{Lined}

-- below the last place in line nobody stands, and nobody has reached more
pub reached_low : (d u k : ℕ) (b : List Packet) → u ≤ d → u ≤ k → Lined d u b → reached k b ≡ 0
reached_low d u k [] h g l = refl
reached_low d u k (inside fs q ∷ b) h g l = rw (lt-leb k q (omega arith)) (reached_low d q k b (omega arith) (omega arith) l.1)
reached_low d u k (taken fs q ∷ b) h g l = absurd (omega (arith, l.1))

pub standing_low : (d u n q : ℕ) (b : List Packet) → u ≤ d → u ≤ q → Lined d u b → standing_from n q b ≡ None
standing_low d u n q [] h g l = refl
standing_low d u n q (inside fs r ∷ b) h g l = rw (ne_eqb r q (omega arith)) (standing_low d r (suc n) q b (omega arith) (omega arith) l.1)
standing_low d u n q (taken fs r ∷ b) h g l = absurd (omega (arith, l.1))

-- where nobody stands at d, the first of the list does not, nor a later one
pub not_at : (d n q : ℕ) (fs : List ℕ) (b : List Packet) → is_some (standing_from n d (inside fs q ∷ b)) ≡ false → q ≡ d → ⊥
not_at d n q fs b e h = true≢false (ap {B = Bool} (λ (t : Bool). is_some (cond t (Some n) (standing_from (suc n) d b))) (sym (eq-eqb q d h)) ∙ e)

pub not_later : (d n q : ℕ) (fs : List ℕ) (b : List Packet) → is_some (standing_from n d (inside fs q ∷ b)) ≡ false → is_some (standing_from (suc n) d b) ≡ false
not_later d n q fs b e = ap {B = Bool} (λ (t : Bool). is_some (cond t (Some n) (standing_from (suc n) d b))) (sym (ne_eqb q d (not_at d n q fs b e))) ∙ e

pub stands_here : (n q : ℕ) (fs : List ℕ) (b : List Packet) → is_some (standing_from n q (inside fs q ∷ b)) ≡ true
stands_here n q fs b = rw (eq-eqb q q refl)

pub stands_later : (n q r : ℕ) (fs : List ℕ) (b : List Packet) → is_some (standing_from (suc n) q b) ≡ true → is_some (standing_from n q (inside fs r ∷ b)) ≡ true
stands_later n q r fs b e = elim (eqb r q) as (λ t. is_some (cond t (Some n) (standing_from (suc n) q b)) ≡ true) [ true ↦ refl | false ↦ e ]

-- how many have reached a place
pub reached_entry : (b : List Packet) → reached 0 b ≡ length b
reached_entry [] = refl
reached_entry (p ∷ b) = rw (leb-zero (place_of p), reached_entry b)

pub reached_within : (k : ℕ) (b : List Packet) → reached k b ≤ length b
reached_within k [] = omega arith
reached_within k (p ∷ b) = elim (leb k (place_of p)) as (λ t. cond t (suc (reached k b)) (reached k b) ≤ suc (length b)) [ true ↦ omega (arith, reached_within k b) | false ↦ omega (arith, reached_within k b) ]

abbrev next_number : Option ℕ → Option ℕ
next_number None = None
next_number (Some i) = Some (suc i)

one_on : (o : Option ℕ) (n a c : ℕ) → suc n + a ≡ unwrap_or (next_number o) (suc n + c) → n + suc a ≡ unwrap_or (next_number o) (n + suc c)
one_on None n a c e = omega arith
one_on (Some i) n a c e = omega arith

-- of those that have reached place q, the one that stands there is the last, and the only one that is not past it
reached_past : (d u n q : ℕ) (b : List Packet) → q < d → u ≤ suc d → Lined d u b → n + reached q b ≡ unwrap_or (next_number (standing_from n q b)) (n + reached (suc q) b)
reached_past d u n q [] h g l = refl
reached_past d u n q (inside fs r ∷ b) h g l = go (reached_past d r (suc n) q b h (omega (arith, l.0)) l.1) (cases_order r q)
  where
    go : suc n + reached q b ≡ unwrap_or (next_number (standing_from (suc n) q b)) (suc n + reached (suc q) b) → (r ≡ q) ⊎ ((r < q) ⊎ (q < r)) → n + reached q (inside fs r ∷ b) ≡ unwrap_or (next_number (standing_from n q (inside fs r ∷ b))) (n + reached (suc q) (inside fs r ∷ b))
    go rec (inl x) =
        rw (eq-eqb r q x, le-leb q r (omega arith), reached_low d r q b (omega arith) (omega arith) l.1) (omega arith)
    go rec (inr (inl x)) =
        rw (ne_eqb r q (omega arith), standing_low d r (suc n) q b (omega (arith, l.0)) (omega arith) l.1, lt-leb q r (omega arith), lt-leb (suc q) r (omega arith), reached_low d r q b (omega arith) (omega arith) l.1, reached_low d r (suc q) b (omega arith) (omega arith) l.1)
    go rec (inr (inr x)) =
        rw (ne_eqb r q (omega arith), le-leb q r (omega arith), le-leb (suc q) r (omega arith)) (one_on (standing_from (suc n) q b) n (reached q b) (reached (suc q) b) rec)
reached_past d u n q (taken fs r ∷ b) h g l =
    rw (le-leb q r (omega (arith, l.0)), le-leb (suc q) r (omega (arith, l.0))) (one_on (standing_from (suc n) q b) n (reached q b) (reached (suc q) b) (reached_past d u (suc n) q b h g l.2))

counted : (o : Option ℕ) (a c : ℕ) → 1 + a ≡ unwrap_or (next_number o) (1 + c) → a ≡ unwrap_or o c
counted None a c e = omega arith
counted (Some i) a c e = omega arith

pub reached_counted : (d q : ℕ) (b : List Packet) → q < d → Lined d (suc d) b → reached q b ≡ unwrap_or (standing_from 1 q b) (reached (suc q) b)
reached_counted d q b h l = counted (standing_from 1 q b) (reached q b) (reached (suc q) b) (reached_past d (suc d) 1 q b h (omega arith) l)

-- the fields stay
pub fields_moved : (p : Packet) → fields_of (moved p) ≡ fields_of p
fields_moved (inside fs q) = refl
fields_moved (taken fs q) = refl

pub fields_marked : (d : ℕ) (p : Packet) → fields_of (marked d p) ≡ fields_of p
fields_marked d (inside fs q) = elim (eqb q d) as (λ t. fields_of (cond t (taken fs q) (inside fs q)) ≡ fs) [ true ↦ refl | false ↦ refl ]
fields_marked d (taken fs q) = refl

pub fed_same : (g : Packet → Packet) → ((p : Packet) → fields_of (g p) ≡ fields_of p) → (b : List Packet) → fed (map g b) ≡ fed b
fed_same g e [] = refl
fed_same g e (p ∷ b) = ap₂ {C = List (List ℕ)} (λ (x : List ℕ) (l : List (List ℕ)). x ∷ l) (e p) (fed_same g e b)

pub fed_more : (fs : List ℕ) (b : List Packet) → fed (b ++ inside fs 0 ∷ []) ≡ fed b ++ fs ∷ []
fed_more fs [] = refl
fed_more fs (p ∷ b) = ap {B = List (List ℕ)} (λ (l : List (List ℕ)). fields_of p ∷ l) (fed_more fs b)

-- a tick
pub standing_moved : (n q : ℕ) (b : List Packet) → standing_from n (suc q) (map moved b) ≡ standing_from n q b
standing_moved n q [] = refl
standing_moved n q (inside fs r ∷ b) = rw (eqb-suc-suc r q, standing_moved (suc n) q b)
standing_moved n q (taken fs r ∷ b) = standing_moved (suc n) q b

pub entry_moved : (n : ℕ) (b : List Packet) → standing_from n 0 (map moved b) ≡ None
entry_moved n [] = refl
entry_moved n (inside fs r ∷ b) = rw (eqb-suc-zero r) (entry_moved (suc n) b)
entry_moved n (taken fs r ∷ b) = entry_moved (suc n) b

low_moved : (d u : ℕ) (b : List Packet) → u ≤ d → Lined d u b → Lined d (suc u) (map moved b)
low_moved d u [] h l = tt
low_moved d u (inside fs q ∷ b) h l = (omega (arith, l.0), low_moved d q b (omega (arith, l.0)) l.1)
low_moved d u (taken fs q ∷ b) h l = absurd (omega (arith, l.1))

pub lined_moved : (d n : ℕ) (b : List Packet) → is_some (standing_from n d b) ≡ false → Lined d (suc d) b → Lined d (suc d) (map moved b)
lined_moved d n [] e l = tt
lined_moved d n (inside fs q ∷ b) e l =
    let ne = not_at d n q fs b e in
    (omega (arith, l.0, ne), low_moved d q b (omega (arith, l.0)) l.1)
lined_moved d n (taken fs q ∷ b) e l = (l.0, l.1, lined_moved d (suc n) b e l.2)

pub reached_moved : (d u k : ℕ) (b : List Packet) → suc k ≤ d → Lined d u b → reached (suc k) (map moved b) ≡ reached k b
reached_moved d u k [] h l = refl
reached_moved d u k (inside fs q ∷ b) h l = rw (leb-suc-suc k q, reached_moved d q k b h l.1)
reached_moved d u k (taken fs q ∷ b) h l =
    rw (le-leb (suc k) q (omega (arith, l.0)), le-leb k q (omega (arith, l.0)), reached_moved d u k b h l.2)

-- a feed
pub standing_fed : (n q : ℕ) (fs : List ℕ) (b : List Packet) → standing_from n (suc q) (b ++ inside fs 0 ∷ []) ≡ standing_from n (suc q) b
standing_fed n q fs [] = rw (eqb-zero-suc q)
standing_fed n q fs (inside gs r ∷ b) = rw (standing_fed (suc n) q fs b)
standing_fed n q fs (taken gs r ∷ b) = standing_fed (suc n) q fs b

pub entry_fed : (n : ℕ) (fs : List ℕ) (b : List Packet) → is_some (standing_from n 0 b) ≡ false → standing_from n 0 (b ++ inside fs 0 ∷ []) ≡ Some (n + length b)
entry_fed n fs [] e = ap Some (omega arith)
entry_fed n fs (inside gs r ∷ b) e =
    rw (ne_eqb r 0 (not_at 0 n r gs b e)) (entry_fed (suc n) fs b (not_later 0 n r gs b e) ∙ ap Some (omega arith))
entry_fed n fs (taken gs r ∷ b) e = entry_fed (suc n) fs b e ∙ ap Some (omega arith)

pub reached_fed : (k : ℕ) (fs : List ℕ) (b : List Packet) → reached (suc k) (b ++ inside fs 0 ∷ []) ≡ reached (suc k) b
reached_fed k fs [] = rw (leb-suc-zero k)
reached_fed k fs (p ∷ b) = rw (reached_fed k fs b)

pub entry_reached : (fs : List ℕ) (b : List Packet) → reached 0 (b ++ inside fs 0 ∷ []) ≡ suc (reached 0 b)
entry_reached fs [] = refl
entry_reached fs (p ∷ b) = rw (leb-zero (place_of p), entry_reached fs b)

pub lined_fed : (d u n : ℕ) (fs : List ℕ) (b : List Packet) → 0 < u → is_some (standing_from n 0 b) ≡ false → Lined d u b → Lined d u (b ++ inside fs 0 ∷ [])
lined_fed d u n fs [] h e l = (h, tt)
lined_fed d u n fs (inside gs q ∷ b) h e l =
    let ne = not_at 0 n q gs b e in
    (l.0, lined_fed d q (suc n) fs b (omega (arith, ne)) (not_later 0 n q gs b e) l.1)
lined_fed d u n fs (taken gs q ∷ b) h e l = (l.0, l.1, lined_fed d u (suc n) fs b h e l.2)

-- a take
pub exit_marked : (d n : ℕ) (b : List Packet) → standing_from n d (map (marked d) b) ≡ None
exit_marked d n [] = refl
exit_marked d n (inside fs r ∷ b) = go (exit_marked d (suc n) b) (eqb r d) refl
  where
    go : standing_from (suc n) d (map (marked d) b) ≡ None → (t : Bool) → eqb r d ≡ t → standing_from n d (cond t (taken fs r) (inside fs r) ∷ map (marked d) b) ≡ None
    go h true e = h
    go h false e = rw e h
exit_marked d n (taken fs r ∷ b) = exit_marked d (suc n) b

pub standing_marked : (d n q : ℕ) (b : List Packet) → (q ≡ d → ⊥) → standing_from n q (map (marked d) b) ≡ standing_from n q b
standing_marked d n q [] h = refl
standing_marked d n q (inside fs r ∷ b) h = go (standing_marked d (suc n) q b h) (eqb r d) refl
  where
    go : standing_from (suc n) q (map (marked d) b) ≡ standing_from (suc n) q b → (t : Bool) → eqb r d ≡ t → standing_from n q (cond t (taken fs r) (inside fs r) ∷ map (marked d) b) ≡ standing_from n q (inside fs r ∷ b)
    go k true e = rw (ne_eqb r q (λ x. h (sym x ∙ eqb-true r d e))) k
    go k false e = rw k
standing_marked d n q (taken fs r ∷ b) h = standing_marked d (suc n) q b h

place_marked : (d : ℕ) (p : Packet) → place_of (marked d p) ≡ place_of p
place_marked d (inside fs r) = elim (eqb r d) as (λ t. place_of (cond t (taken fs r) (inside fs r)) ≡ r) [ true ↦ refl | false ↦ refl ]
place_marked d (taken fs r) = refl

pub reached_marked : (d k : ℕ) (b : List Packet) → reached k (map (marked d) b) ≡ reached k b
reached_marked d k [] = refl
reached_marked d k (p ∷ b) = rw (place_marked d p, reached_marked d k b)

low_marked : (d u v : ℕ) (b : List Packet) → u ≤ d → u ≤ v → Lined d u b → Lined d v (map (marked d) b)
low_marked d u v [] h g l = tt
low_marked d u v (inside fs q ∷ b) h g l = rw (ne_eqb q d (omega (arith, l.0))) (omega (arith, l.0), low_marked d q q b (omega (arith, l.0)) (omega arith) l.1)
low_marked d u v (taken fs q ∷ b) h g l = absurd (omega (arith, l.1))

pub lined_marked : (d : ℕ) (b : List Packet) → Lined d (suc d) b → Lined d (suc d) (map (marked d) b)
lined_marked d [] l = tt
lined_marked d (inside fs q ∷ b) l = go (eqb q d) refl
  where
    go : (t : Bool) → eqb q d ≡ t → Lined d (suc d) (cond t (taken fs q) (inside fs q) ∷ map (marked d) b)
    go true e = (eqb-true q d e, refl, low_marked d q (suc d) b (omega (arith, l.0)) (omega (arith, l.0)) l.1)
    go false e = (l.0, low_marked d q q b (omega (arith, l.0)) (omega arith) l.1)
lined_marked d (taken fs q ∷ b) l = (l.0, l.1, lined_marked d b l.2)
