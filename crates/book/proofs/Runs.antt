-- Every run on a right pipeline keeps the laws. Assumes nothing.
use Rattle.std.proofs.Common.{◌≡◌, ℕ, suc, ◌<◌, ◌≤◌, Bool, true, false, not, ltb, List, [], ◌∷◌, ◌++◌, length, get_or, Some, sym, refl, ap, ◌∙◌, subst, ap₂, arith, ltb-true}
use Rattle.std.proofs.lemmas.List.{append-nil, append_assoc, length-map}
use Rattle.transaction.specs.Faults.{refusal}
use Rattle.meaning.specs.Serial.{Values}
use Rattle.image.specs.Reading.{Answer}
use Rattle.image.specs.Reading.Answer.{good}
use Rattle.book.specs.Run.{words_after}
use Rattle.book.specs.Calls.{Call, Outcome, refused_if}
use Rattle.book.specs.Calls.Call.{Peek}
use Rattle.book.specs.Calls.Outcome.{word}
use Rattle.book.specs.Book.{Shape, Packet, fields_of, fed, standing, reached, answer, turned, answers, ended}
use Rattle.book.specs.Pipeline.{Pipeline, Contents, packet_at, reply, Stepped}
use Rattle.book.specs.Right.{Right}
use Rattle.book.specs.Agrees.{FeedsWords, Agrees}
use Rattle.book.specs.Laws.{Exchange, exchange, exchanges, fed_in, ticks_since, reached_in, Waits, Served}
use Rattle.book.specs.Theorem.{EachCall, EveryRun}
use Rattle.book.proofs.Cases.{decided}
use Rattle.book.proofs.Histories.{front_within, reached_since, stands_at, nobody_at, KeptBy, kept_none, kept_more}
use Rattle.book.proofs.Agreement.{one_call, calls_from, fresh_agrees}

module _ (shape : Shape) (one : Values → Values) where
  abbrev run_of : List Call → List Packet → List Exchange
  run_of cs b = exchanges cs (answers shape one cs b)

  kept_all : (cs : List Call) (run : List Exchange) (b : List Packet) → KeptBy shape one run b → KeptBy shape one (run ++ run_of cs b) (ended shape one cs b)
  kept_all [] run b k = subst (λ (l : List Exchange). KeptBy shape one l b) (sym (append-nil run)) k
  kept_all (c ∷ cs) run b k =
      let x = exchange c (answer shape one c b) in
      let b' = turned shape one c b in
      subst (λ (l : List Exchange). KeptBy shape one l (ended shape one cs b')) (append_assoc run (x ∷ []) (run_of cs b')) (kept_all cs (run ++ x ∷ []) b' (kept_more shape one run b c (answer shape one c b) (decided shape one c b) k))

  -- what a peek after these exchanges tells
  abbrev Tells : List Exchange → ℕ → ℕ → ℕ → Type 0
  Tells run s w n = (n ≡ reached_in (shape.stage s) run) × (w ≡ get_or (words_after one shape.states n (fed_in run)) s 0)

  module _ (within : (s : ℕ) → s < shape.states → shape.stage s ≤ shape.depth) where
    told_here : (s w n : ℕ) (run : List Exchange) (b : List Packet) → KeptBy shape one run b → answer shape one (Peek s) b ≡ good (word w n) → Tells run s w n
    told_here s w n run b k = go (ltb s shape.states) refl
      where
        go : (t : Bool) → ltb s shape.states ≡ t → refused_if (not t) (refusal 16 s) (good (word (get_or (words_after one shape.states (reached (shape.stage s) b) (fed b)) s 0) (reached (shape.stage s) b))) ≡ good (word w n) → Tells run s w n
        go false e h = absurd (let z : ◌≡◌ {A = ℕ} 0 1 = cc in omega arith)
        go true e h =
            let count : reached (shape.stage s) b ≡ n = cc in
            let kept : get_or (words_after one shape.states (reached (shape.stage s) b) (fed b)) s 0 ≡ w = cc in (
              sym count ∙ reached_since shape.depth (suc shape.depth) (shape.stage s) b (ticks_since run) (within s (ltb-true s shape.states e)) k.lined k.walked,
              sym kept ∙ ap₂ {C = ℕ} (λ (m : ℕ) (l : List (List ℕ)). get_or (words_after one shape.states m l) s 0) count (sym k.packets),
            )

    told : (cs : List Call) (run : List Exchange) (b : List Packet) → KeptBy shape one run b → (before later : List Exchange) (s w n : ℕ) → run_of cs b ≡ before ++ exchange (Peek s) (good (word w n)) ∷ later → Tells (run ++ before) s w n
    told [] run b k [] later s w n e = absurd (let z : ◌≡◌ {A = ℕ} 0 1 = cc in omega arith)
    told [] run b k (y ∷ before) later s w n e = absurd (let z : ◌≡◌ {A = ℕ} 0 1 = cc in omega arith)
    told (c ∷ cs) run b k [] later s w n e =
        let x : exchange c (answer shape one c b) ≡ exchange (Peek s) (good (word w n)) = cc in
        let call : c ≡ Peek s = ap {B = Call} (λ (y : Exchange). y.call) x in
        let said : answer shape one c b ≡ good (word w n) = ap {B = Answer Outcome} (λ (y : Exchange). y.answer) x in
        subst (λ (l : List Exchange). Tells l s w n) (sym (append-nil run)) (told_here s w n run b k (subst (λ (d : Call). answer shape one d b ≡ good (word w n)) call said))
    told (c ∷ cs) run b k (y ∷ before) later s w n e =
        let x = exchange c (answer shape one c b) in
        let b' = turned shape one c b in
        let first : x ≡ y = cc in
        let rest : run_of cs b' ≡ before ++ exchange (Peek s) (good (word w n)) ∷ later = cc in
        subst (λ (l : List Exchange). Tells l s w n) (append_assoc run (x ∷ []) before ∙ ap {B = List Exchange} (λ (z : Exchange). run ++ z ∷ before) first) (told cs (run ++ x ∷ []) b' (kept_more shape one run b c (answer shape one c b) (decided shape one c b) k) before later s w n rest)

    -- a run whose answers are the book's, and a machine that holds the packets where the book has them
    served_book : {Row : Type 0} (cs : List Call) (m : Contents Row) → ((q : ℕ) → q ≤ shape.depth → packet_at m q ≡ standing q (ended shape one cs [])) → Served shape one cs (answers shape one cs []) m
    served_book cs m at =
        record {
          book = refl;
          order = λ n h. (omega (arith, h, k.gone, front_within b, size), k.order n h);
          peeks = told cs [] [] (kept_none shape one);
          stands = stands;
          empty = λ q h none. at q h ∙ nobody_at 1 q b since k.walked (λ i f z e. none i (record { fed = omega (arith, z, size); untaken = omega (arith, f, k.gone) }) e);
        }
      where
        b : List Packet
        b = ended shape one cs []

        since : List ℕ
        since = ticks_since (run_of cs [])

        k : KeptBy shape one (run_of cs []) b
        k = kept_all cs [] [] (kept_none shape one)

        size : length (fed_in (run_of cs [])) ≡ length b
        size = ap length k.packets ∙ length-map b fields_of

        stands : (n : ℕ) → Waits n (run_of cs []) → (get_or since n 0 ≤ shape.depth) × (packet_at m (get_or since n 0) ≡ Some (suc n))
        stands n x =
            let r = stands_at shape.depth (suc shape.depth) 1 n b since (omega arith) k.lined k.walked (omega (arith, x.untaken, k.gone)) (omega (arith, x.fed, size)) in
            let h : get_or since n 0 ≤ shape.depth = omega (arith, r.0) in
            (h, at (get_or since n 0) h ∙ r.1 ∙ ap Some (omega arith))

module _ {Row : Type 0} (P : Pipeline Row) (one : Values → Values) (R : Right P one) where
  pub each_call : EachCall P one
  each_call c b m m' w a t = let x = one_call P one R c w b m m' a t in record { answer = x.0; agrees = x.1 }

  -- a run whose answers are the book's, on a machine that agrees with the book after it
  pub served : (cs : List Call) (rs : List (Answer Outcome)) (m : Contents Row) → rs ≡ answers P.shape one cs [] → Agrees P one (ended P.shape one cs []) m → Served P.shape one cs rs m
  served cs rs m e a = subst (λ (l : List (Answer Outcome)). Served P.shape one cs l m) (sym e) (served_book P.shape one R.within cs m a.places)

  -- one call more
  answers_more : (cs : List Call) (c : Call) (b : List Packet) → answers P.shape one (cs ++ c ∷ []) b ≡ answers P.shape one cs b ++ answer P.shape one c (ended P.shape one cs b) ∷ []
  answers_more [] c b = refl
  answers_more (x ∷ cs) c b = ap {B = List (Answer Outcome)} (λ (l : List (Answer Outcome)). answer P.shape one x b ∷ l) (answers_more cs c (turned P.shape one x b))

  ended_more : (cs : List Call) (c : Call) (b : List Packet) → ended P.shape one (cs ++ c ∷ []) b ≡ turned P.shape one c (ended P.shape one cs b)
  ended_more [] c b = refl
  ended_more (x ∷ cs) c b = ended_more cs c (turned P.shape one x b)

  pub every_run : EveryRun P one
  every_run cs rs m m' w z r =
      let x = calls_from P one R cs [] m m' rs w (fresh_agrees P one R m z) r in
      record { agrees = x.1; served = served cs rs m' x.0 x.1 }
