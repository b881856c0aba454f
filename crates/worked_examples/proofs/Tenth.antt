-- Of the packets of sampling every tenth is marked. Assumes nothing.
use Rattle.std.proofs.Common.{◌≡◌, ℕ, zero, suc, ◌+◌, ◌%◌, ◌<◌, ◌≤◌, Bool, true, false, cond, not, eqb, List, [], ◌∷◌, map, length, get_or, sym, refl, ap, ◌∙◌, subst, mod-lt, mod-eq_of_lt, arith}
use native.Mathlib.Nat.{add-mod_right}
use Rattle.std.specs.List.{AllByRecursion}
use Rattle.std.proofs.ByRecursion.{All-get_or, All-append}
use Rattle.std.proofs.lemmas.List.{ext_get_or, get_or-map, length-map}
use Rattle.std.proofs.lemmas.Bool.{eqb-true, eqb-false}
use Rattle.word.specs.contracts.arithmetic.WrapArithmetic.TheImpl.{ghosts as wrap}
use Rattle.word.specs.Words.{equal_to}
use Rattle.transaction.specs.declared.refusal.Refusal.{Refusal}
use Rattle.transaction.specs.Programs.{program_of}
use Rattle.transaction.specs.WellFormed.{Program}
use Rattle.meaning.specs.Serial.{Values, values}
use Rattle.image.specs.Reading.{Answer}
use Rattle.image.specs.Reading.Answer.{good, bad}
use Rattle.book.specs.Run.{one_alone, words_from, leaving}
use Rattle.book.specs.Calls.{Call, Outcome, refused_if}
use Rattle.book.specs.Calls.Call.{Feed, Tick, Take, Peek}
use Rattle.book.specs.Book.{Shape, Packet, answer, turned, answers}
use Rattle.book.specs.Laws.{fed_by, fed_in, taken_in, exchanges}
use Rattle.plans.specs.Pipeline.{shape_of}
use Rattle.worked_examples.specs.Images.{sampling_image}
use Rattle.worked_examples.specs.Runs.{EveryServedRun, TenthsMarked, TenthMarked}
use Rattle.worked_examples.proofs.Samples.{sampling_table, sampling_exactly}
use Rattle.worked_examples.proofs.Shapes.{program_same}
use Rattle.worked_examples.proofs.Running.{sampling_program}

-- PACKETS: a packet that is fed has its fields
abbrev Long : ℕ → List ℕ → Type 0
Long w fs = length fs ≡ w

fed_by_lem : (w : ℕ) (fs : List ℕ) (a : Answer Outcome) → length fs ≡ w → AllByRecursion (Long w) (fed_by (Feed fs) a)
fed_by_lem w fs (good o) e = (e, tt)
fed_by_lem w fs (bad r) e = tt

fed_if : (w : ℕ) (fs : List ℕ) (b : Bool) (r : Refusal) (a : Answer Outcome) → eqb (length fs) w ≡ b → AllByRecursion (Long w) (fed_by (Feed fs) (refused_if (not b) r a))
fed_if w fs true r a e = fed_by_lem w fs a (eqb-true (length fs) w e)
fed_if w fs false r a e = tt

module _ (shape : Shape) (one : Values → Values) where
  all_long : (cs : List Call) (b : List Packet) → AllByRecursion (Long shape.width) (fed_in (exchanges cs (answers shape one cs b)))
  all_long [] b = tt
  all_long (Feed fs ∷ cs) b =
      All-append (Long shape.width) (fed_by (Feed fs) (answer shape one (Feed fs) b)) _ (fed_if shape.width fs (eqb (length fs) shape.width) _ _ refl) (all_long cs (turned shape one (Feed fs) b))
  all_long (Tick ∷ cs) b = all_long cs (turned shape one Tick b)
  all_long (Take n ∷ cs) b = all_long cs (turned shape one (Take n) b)
  all_long (Peek s ∷ cs) b = all_long cs (turned shape one (Peek s) b)

-- THE SERIAL RUN
abbrev sampled : Values → Values
sampled v = one_alone wrap.plus wrap.minus sampling_program v

abbrev follows : ℕ → ℕ
follows k = cond (eqb k 9) 0 (suc k)

abbrev left : ℕ → Values
left k = values (equal_to k 9 ∷ equal_to k 9 ∷ []) (follows k ∷ [])

-- what one packet leaves
one_packet : (k : ℕ) → k < 10 → (fs : List ℕ) → length fs ≡ 2 → sampled (values fs (k ∷ [])) ≡ left k
one_packet k h [] e = absurd (omega arith)
one_packet k h (a ∷ []) e = absurd (omega arith)
one_packet zero h (a ∷ (b ∷ [])) e = refl
one_packet (suc zero) h (a ∷ (b ∷ [])) e = refl
one_packet (suc (suc zero)) h (a ∷ (b ∷ [])) e = refl
one_packet (suc (suc (suc zero))) h (a ∷ (b ∷ [])) e = refl
one_packet (suc (suc (suc (suc zero)))) h (a ∷ (b ∷ [])) e = refl
one_packet (suc (suc (suc (suc (suc zero))))) h (a ∷ (b ∷ [])) e = refl
one_packet (suc (suc (suc (suc (suc (suc zero)))))) h (a ∷ (b ∷ [])) e = refl
one_packet (suc (suc (suc (suc (suc (suc (suc zero))))))) h (a ∷ (b ∷ [])) e = refl
one_packet (suc (suc (suc (suc (suc (suc (suc (suc zero)))))))) h (a ∷ (b ∷ [])) e = refl
one_packet (suc (suc (suc (suc (suc (suc (suc (suc (suc zero))))))))) h (a ∷ (b ∷ [])) e = refl
one_packet (suc (suc (suc (suc (suc (suc (suc (suc (suc (suc k)))))))))) h (a ∷ (b ∷ [])) e = absurd (omega arith)
one_packet k h (a ∷ (b ∷ (c ∷ fs))) e = absurd (omega arith)

-- the word that follows k counts on, modulo 10
counts_on : (n k : ℕ) (b : Bool) → eqb k 9 ≡ b → k < 10 → (cond b 0 (suc k) < 10) × ((cond b 0 (suc k) + n) % 10 ≡ (k + suc n) % 10)
counts_on n k true e h =
    let q : k ≡ 9 = eqb-true k 9 e in
    let first : 0 + n ≡ n = omega arith in
    let last : n + 10 ≡ k + suc n = omega arith in
    (omega arith, ap {B = ℕ} (λ (m : ℕ). m % 10) first ∙ sym (add-mod_right n 10) ∙ ap {B = ℕ} (λ (m : ℕ). m % 10) last)
counts_on n k false e h =
    let ne : k ≡ 9 → ⊥ = eqb-false k 9 e in
    let on : suc k + n ≡ k + suc n = omega arith in
    (omega arith, ap {B = ℕ} (λ (m : ℕ). m % 10) on)

-- the words after n packets that meet the word k
words_after : (packets : List (List ℕ)) → AllByRecursion (Long 2) packets → (n k : ℕ) → k < 10 → n ≤ length packets → words_from sampled (k ∷ []) n packets ≡ (k + n) % 10 ∷ []
words_after [] all n k h le =
    let same : k + n ≡ k = omega arith in
    ap {B = List ℕ} (λ (m : ℕ). m ∷ []) (sym (ap {B = ℕ} (λ (m : ℕ). m % 10) same ∙ mod-eq_of_lt h))
words_after (fs ∷ packets) all zero k h le =
    let same : k + 0 ≡ k = omega arith in
    ap {B = List ℕ} (λ (m : ℕ). m ∷ []) (sym (ap {B = ℕ} (λ (m : ℕ). m % 10) same ∙ mod-eq_of_lt h))
words_after (fs ∷ packets) all (suc n) k h le =
    let on = counts_on n k (eqb k 9) refl h in
    ap {B = List ℕ} (λ (v : Values). words_from sampled v.words n packets) (one_packet k h fs all.0)
    ∙ words_after packets all.1 n (follows k) on.0 (omega arith)
    ∙ ap {B = List ℕ} (λ (m : ℕ). m ∷ []) on.1

-- packet n, counted from 0
leaves_marked : (packets : List (List ℕ)) → AllByRecursion (Long 2) packets → (n : ℕ) → n < length packets → get_or (leaving sampled 1 (suc n) packets) 0 0 ≡ equal_to (n % 10) 9
leaves_marked packets all n h =
    let first : 0 + n ≡ n = omega arith in
    let words : words_from sampled (0 ∷ []) n packets ≡ n % 10 ∷ [] = words_after packets all n 0 (omega arith) (omega arith) ∙ ap {B = List ℕ} (λ (m : ℕ). m % 10 ∷ []) first in
    ap {B = ℕ} (λ (ws : List ℕ). get_or (sampled (values (get_or packets n []) ws)).fields 0 0) words
    ∙ ap {B = ℕ} (λ (v : Values). get_or v.fields 0 0) (one_packet (n % 10) (mod-lt n (omega arith)) (get_or packets n []) (All-get_or (Long 2) packets n [] h all))

-- RUNS
pub every_tenth : EveryServedRun wrap.plus wrap.minus sampling_image TenthsMarked
every_tenth ran plan x cs rs m served n h =
    let program = program_same wrap.plus wrap.minus ran sampling_image sampling_program sampling_table refl sampling_exactly 30 10 8 plan x in
    let fed : List (List ℕ) = fed_in (exchanges cs rs) in
    let (low, fields) = served.order n h in
    let long : AllByRecursion (Long plan.transaction.fields) fed = subst (λ (qs : List (Answer Outcome)). AllByRecursion (Long plan.transaction.fields) (fed_in (exchanges cs qs))) (sym served.book) (all_long (shape_of plan) (one_alone wrap.plus wrap.minus (program_of plan.transaction)) cs []) in
    ap {B = ℕ} (λ (fs : List ℕ). get_or fs 0 0) fields
    ∙ ap {B = ℕ} (λ (p : Program). get_or (leaving (one_alone wrap.plus wrap.minus p) p.states (suc n) fed) 0 0) program
    ∙ leaves_marked fed (subst (λ (p : Program). AllByRecursion (Long p.fields) fed) program long) n low

-- the first ten
abbrev marks : List ℕ
marks = 0 ∷ 0 ∷ 0 ∷ 0 ∷ 0 ∷ 0 ∷ 0 ∷ 0 ∷ 0 ∷ 1 ∷ []

marks_at : (n : ℕ) → n < 10 → equal_to (n % 10) 9 ≡ get_or marks n 0
marks_at zero h = refl
marks_at (suc zero) h = refl
marks_at (suc (suc zero)) h = refl
marks_at (suc (suc (suc zero))) h = refl
marks_at (suc (suc (suc (suc zero)))) h = refl
marks_at (suc (suc (suc (suc (suc zero))))) h = refl
marks_at (suc (suc (suc (suc (suc (suc zero)))))) h = refl
marks_at (suc (suc (suc (suc (suc (suc (suc zero))))))) h = refl
marks_at (suc (suc (suc (suc (suc (suc (suc (suc zero)))))))) h = refl
marks_at (suc (suc (suc (suc (suc (suc (suc (suc (suc zero))))))))) h = refl
marks_at (suc (suc (suc (suc (suc (suc (suc (suc (suc (suc n)))))))))) h = absurd (omega arith)

pub first_ten : EveryServedRun wrap.plus wrap.minus sampling_image TenthMarked
first_ten ran plan x cs rs m served ten =
    let taken : List (List ℕ) = taken_in (exchanges cs rs) in
    let long : length (map (λ (fs : List ℕ). get_or fs 0 0) taken) ≡ 10 = length-map taken (λ (fs : List ℕ). get_or fs 0 0) ∙ ten in
    ext_get_or 0 (map (λ (fs : List ℕ). get_or fs 0 0) taken) marks long
    (λ n h.
    let low : n < 10 = omega (arith, long) in
    let there : n < length taken = omega arith in
    get_or-map (λ (fs : List ℕ). get_or fs 0 0) taken n [] 0 there ∙ every_tenth ran plan x cs rs m served n there ∙ marks_at n low)
