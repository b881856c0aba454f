-- What lines come to, from what each step of the compiler found. Assumes nothing.
use Rattle.std.proofs.Common.{◌≡◌, ℕ, zero, suc, ◌+◌, ◌<◌, ◌≤◌, Bool, true, false, cond, ltb, ◌⊎◌, List, Some, None, Option, sym, refl, ap, ◌∙◌, inl, inr, arith}
use Rattle.std.proofs.lemmas.Bool.{cases_order, lt-ltb, le-ltb}
use Rattle.transaction.specs.declared.statement.Statement.{Statement}
use Rattle.transaction.specs.Faults.{refusal}
use Rattle.image.specs.Reading.{Answer, good, bad}
use Rattle.lines.specs.declared.line.Source.{Source}
use Rattle.lines.specs.declared.lines.Lines.{Lines}
use Rattle.lines.specs.Unique.{IsTableOf}
use Rattle.lines.proofs.OneTable.{unique}
use Rattle.codelets.specs.Codelets.{crowded, Shares, Smallest}
use Rattle.codelets.proofs.Paths.{crowded_decides, named_below}
use Rattle.resolving.specs.declared.codelet.Codelet.{Codelet}
use Rattle.resolving.specs.declared.decided.Decided.{Decided}
use Rattle.compiler.specs.Verdict.{first_from, first_state, refused_at, needed, untaken, judged, StatementsJudged}

first_found : (p : ℕ → Bool) (i n s : ℕ) → i ≤ s → s < i + n → p s ≡ true → ((t : ℕ) → i ≤ t → t < s → p t ≡ false) → first_from i n p ≡ Some s
first_found p i zero s h k e f = absurd (omega arith)
first_found p i (suc n) s h k e f = go (λ q. first_found p (i + 1) n s (omega arith) (omega arith) e (λ t a b. f t (omega arith) b)) (cases_order i s)
  where
    go : (i < s → first_from (i + 1) n p ≡ Some s) → (i ≡ s) ⊎ ((i < s) ⊎ (s < i)) → first_from i (suc n) p ≡ Some s
    go later (inl q) = ap {B = Option ℕ} (λ b. cond b (Some i) (first_from (i + 1) n p)) (ap {B = Bool} p q ∙ e) ∙ ap {B = Option ℕ} Some q
    go later (inr (inl q)) = ap {B = Option ℕ} (λ b. cond b (Some i) (first_from (i + 1) n p)) (f i (omega arith) q) ∙ later q
    go later (inr (inr q)) = absurd (omega arith)

first_none : (p : ℕ → Bool) (i n : ℕ) → ((t : ℕ) → i ≤ t → t < i + n → p t ≡ false) → first_from i n p ≡ None
first_none p i zero f = refl
first_none p i (suc n) f =
    ap {B = Option ℕ} (λ b. cond b (Some i) (first_from (i + 1) n p)) (f i (omega arith) (omega arith)) ∙ first_none p (i + 1) n (λ t a b. f t (omega arith) (omega arith))

uncrowded : (r : Lines) (s : ℕ) → (Shares r s → ⊥) → crowded r s ≡ false
uncrowded r s h = go (crowded r s) refl
  where
    go : (b : Bool) → crowded r s ≡ b → b ≡ false
    go true e = absurd (h ((crowded_decides r s).0 e))
    go false e = refl

module _ (takes : Codelet → Decided → Source → Bool) (r : Lines) (D P Q : ℕ) where
  abbrev rest : Answer ℕ
  rest = cond (ltb D (needed r P Q)) (bad (refusal 10 (needed r P Q))) (good (needed r P Q))

  -- two states in one codelet
  pub shared : (s : ℕ) → Smallest r s → bad (refusal 8 s) ≡ judged takes r D P Q
  shared s m =
      let found : first_state (crowded r) ≡ Some s =
      first_found (crowded r) 0 8 s (omega arith) (omega (arith, named_below r s m.shares.3.named)) ((crowded_decides r s).1 m.shares) (λ t _ b. uncrowded r t (m.before t b)) in
      sym (ap {B = Answer ℕ} (λ (o : Option ℕ). refused_at 8 o (refused_at 9 (first_state (untaken takes r)) rest)) found)

  module _ (apart : (s : ℕ) → crowded r s ≡ false) where
    none_shared : first_state (crowded r) ≡ None
    none_shared = first_none (crowded r) 0 8 (λ t _ _. apart t)

    past_shared : (a : Answer ℕ) → a ≡ refused_at 9 (first_state (untaken takes r)) rest → a ≡ judged takes r D P Q
    past_shared a e =
        e ∙ sym (ap {B = Answer ℕ} (λ (o : Option ℕ). refused_at 8 o (refused_at 9 (first_state (untaken takes r)) rest)) none_shared)

    -- an update outside the class
    pub outside : (s : ℕ) → s < 8 → untaken takes r s ≡ true → ((t : ℕ) → t < s → untaken takes r t ≡ false) → bad (refusal 9 s) ≡ judged takes r D P Q
    outside s h e f =
        past_shared (bad (refusal 9 s)) (sym (ap {B = Answer ℕ} (λ (o : Option ℕ). refused_at 9 o rest) (first_found (untaken takes r) 0 8 s (omega arith) (omega arith) e (λ t _ b. f t b))))

    module _ (taken : (s : ℕ) → s < 8 → untaken takes r s ≡ false) where
      past_taken : (a : Answer ℕ) → a ≡ rest → a ≡ judged takes r D P Q
      past_taken a e =
          past_shared a (e ∙ sym (ap {B = Answer ℕ} (λ (o : Option ℕ). refused_at 9 o rest) (first_none (untaken takes r) 0 8 (λ t _ b. taken t (omega arith)))))

      -- more stages than there are
      pub deep : (n : ℕ) → n ≡ needed r P Q → D < n → bad (refusal 10 n) ≡ judged takes r D P Q
      deep n e h =
          past_taken (bad (refusal 10 n)) (ap {B = Answer ℕ} (λ k. bad (refusal 10 k)) e ∙ sym (ap {B = Answer ℕ} (λ b. cond b (bad (refusal 10 (needed r P Q))) (good (needed r P Q))) (lt-ltb D (needed r P Q) (omega arith))))

      -- and a plan
      pub fits : (n : ℕ) → n ≡ needed r P Q → n ≤ D → good n ≡ judged takes r D P Q
      fits n e h =
          past_taken (good n) (ap {B = Answer ℕ} (λ (k : ℕ). good k) e ∙ sym (ap {B = Answer ℕ} (λ b. cond b (bad (refusal 10 (needed r P Q))) (good (needed r P Q))) (le-ltb D (needed r P Q) (omega arith))))

-- what one table of the lines comes to, every such table comes to
pub by_lines : (takes : Codelet → Decided → Source → Bool) (xs : List Statement) (D P Q : ℕ) (a : Answer ℕ) (r : Lines) → IsTableOf xs r → a ≡ judged takes r D P Q → StatementsJudged takes xs D P Q a
by_lines takes xs D P Q a r x e =
    record { lines = r; exact = x; answer = e; every = λ s y. e ∙ ap {B = Answer ℕ} (λ (t : Lines). judged takes t D P Q) (unique xs r s x y) }
