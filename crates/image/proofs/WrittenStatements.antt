-- Statements are read exactly where their written forms stand. Assumes nothing.
use Rattle.std.proofs.Common.{◌≡◌, ℕ, zero, suc, ◌≤◌, Bool, true, ◌&&◌, List, [], ◌∷◌, ◌++◌, length, sym, refl, ap, ◌∙◌, subst, append_assoc, append-nil, arith}
use Rattle.std.proofs.lemmas.Bool.{and_parts, and_from, not-true, not_from_false, cond-true, cond-false}
use Rattle.transaction.specs.declared.statement.Operand.{Operand}
use Rattle.transaction.specs.declared.statement.Target.{Target}
use Rattle.transaction.specs.declared.statement.Kind.{Kind}
use Rattle.transaction.specs.declared.statement.Kind.TheVariants.{Copy as KCopy, Add as KAdd, Sub as KSub, Less as KLess, Equal as KEqual, Choose as KChoose, If as KIf, Else as KElse, End as KEnd}
use Rattle.transaction.specs.declared.statement.Statement.{Statement}
use Rattle.transaction.specs.declared.statement.Statement.TheVariants.{Copy, Add, Sub, Less, Equal, Choose, If, Else, End}
use Rattle.transaction.specs.Statements.{kind_of}
use Rattle.transaction.specs.WellFormed.{has, has_target, has_all, within, opened, fits, after, nested}
use Rattle.image.specs.Reading.{got, pair_at, pair_of, rest_at, fitting_at, statements_at}
use Rattle.image.specs.Writing.{number, kind_number, written_target, written_operand, written_rest, written_statement, written_all}
use Rattle.image.proofs.GoodReads.{carried, unless, only_where, next_case, next_from}
use Rattle.image.proofs.Spans.{Spans, spans_none, none_spans, spans_join, spans_split}
use Rattle.image.proofs.WrittenPlaces.{OperandAt, kind_to, kind_from, target_to, target_from, operand_to, operand_from}

abbrev Pair : Type 0
Pair = Target × Operand × Operand

module _ (bs : List ℕ) (f s : ℕ) where
  -- the forms that stand from `at` up to end, of what is there
  abbrev PairAt : ℕ → Pair → ℕ → Type 0
  PairAt at p end = Spans bs at (written_target p.0 ++ (written_operand p.1 ++ written_operand p.2)) end × ((has_target f s p.0 && (has f s p.1 && has f s p.2)) ≡ true)

  abbrev RestAt : Kind → ℕ → Statement → ℕ → Type 0
  RestAt k at x end = Spans bs at (written_rest x) end × (has_all f s x ≡ true) × (kind_of x ≡ k)

module _ (bs : List ℕ) (f s : ℕ) where
  pair_to : {at : ℕ} {p : Pair} {end : ℕ} → pair_at f s bs at ≡ got p end → PairAt bs f s at p end
  pair_to {at} e =
      next_case _ _ e λ t i x e.
      next_case _ _ e λ a j y e.
      next_case _ _ e λ b k z e.
      let x = target_to bs f s x in
      let y = operand_to bs f s y in
      let z = operand_to bs f s z in
      carried (PairAt bs f s at) e (spans_join bs x.0 (spans_join bs y.0 z.0), and_from _ _ x.1 (and_from _ _ y.1 z.1))

  -- a statement of a target and two operands
  of_pair_to : (k : Kind) (make : Target → Operand → Operand → Statement) {at : ℕ} → ((p : Pair) (i : ℕ) → PairAt bs f s at p i → RestAt bs f s k at (make p.0 p.1 p.2) i) → {x : Statement} {end : ℕ} → pair_of make f s bs at ≡ got x end → RestAt bs f s k at x end
  of_pair_to k make {at} g e =
      next_case _ _ e λ p i x e. carried (RestAt bs f s k at) e (g p i (pair_to x))

  -- a target, two operands and a third
  choose_at : (t : Target) (c a b : Operand) {at mid end : ℕ} → PairAt bs f s at (t, c, a) mid → OperandAt bs f s mid b end → RestAt bs f s KChoose at (Choose t c a b) end
  choose_at t c a b p q =
      let x = spans_split bs (written_target t) (written_operand c ++ written_operand a) p.0 in
      let y = spans_split bs (written_operand c) (written_operand a) x.1 in
      (spans_join bs x.0 (spans_join bs y.0 (spans_join bs y.1 q.0)), (grind arith), refl)

  rest_to : (k : Kind) {at : ℕ} {x : Statement} {end : ℕ} → rest_at k f s bs at ≡ got x end → RestAt bs f s k at x end
  rest_to KCopy {at} e =
      next_case _ _ e λ t i x e.
      next_case _ _ e λ a j y e.
      let x = target_to bs f s x in
      let y = operand_to bs f s y in
      carried (RestAt bs f s KCopy at) e (spans_join bs x.0 y.0, and_from _ _ x.1 y.1, refl)
  rest_to KAdd e = of_pair_to KAdd (λ t a b. Add t a b) (λ p i q. (q.0, q.1, refl)) e
  rest_to KSub e = of_pair_to KSub (λ t a b. Sub t a b) (λ p i q. (q.0, q.1, refl)) e
  rest_to KLess e = of_pair_to KLess (λ t a b. Less t a b) (λ p i q. (q.0, q.1, refl)) e
  rest_to KEqual e = of_pair_to KEqual (λ t a b. Equal t a b) (λ p i q. (q.0, q.1, refl)) e
  rest_to KChoose {at} e =
      next_case _ _ e λ p i x e.
      next_case _ _ e λ b j y e.
      carried (RestAt bs f s KChoose at) e (choose_at p.0 p.1 p.2 b (pair_to x) (operand_to bs f s y))
  rest_to KIf {at} e =
      next_case _ _ e λ c i x e.
      let x = operand_to bs f s x in
      carried (RestAt bs f s KIf at) e (x.0, x.1, refl)
  rest_to KElse {at} e = carried (RestAt bs f s KElse at) e (spans_none bs at, refl, refl)
  rest_to KEnd {at} e = carried (RestAt bs f s KEnd at) e (spans_none bs at, refl, refl)

module _ (bs : List ℕ) (f s : ℕ) (few : f ≤ 16) (fewer : s ≤ 8) where
  pair_from : {at : ℕ} (t : Target) (a b : Operand) {end : ℕ} → PairAt bs f s at (t, a, b) end → pair_at f s bs at ≡ got (t, a, b) end
  pair_from {at} t a b {end} p =
      let x = spans_split bs (written_target t) (written_operand a ++ written_operand b) p.0 in
      let y = spans_split bs (written_operand a) (written_operand b) x.1 in
      next_from _ (target_from bs f s few fewer t (x.0, (grind arith)))
      (next_from _ (operand_from bs f s few fewer a (y.0, (grind arith)))
      (next_from _ (operand_from bs f s few fewer b (y.1, (grind arith))) refl))

  of_pair_from : (make : Target → Operand → Operand → Statement) {at : ℕ} (t : Target) (a b : Operand) {end : ℕ} → PairAt bs f s at (t, a, b) end → pair_of make f s bs at ≡ got (make t a b) end
  of_pair_from make t a b p = next_from _ (pair_from t a b p) refl

  rest_from : {at : ℕ} (x : Statement) {end : ℕ} → Spans bs at (written_rest x) end → has_all f s x ≡ true → rest_at (kind_of x) f s bs at ≡ got x end
  rest_from (Copy t a) p e =
      let x = spans_split bs (written_target t) (written_operand a) p in
      next_from _ (target_from bs f s few fewer t (x.0, (grind arith)))
      (next_from _ (operand_from bs f s few fewer a (x.1, (grind arith))) refl)
  rest_from (Add t a b) p e = of_pair_from (λ t a b. Add t a b) t a b (p, e)
  rest_from (Sub t a b) p e = of_pair_from (λ t a b. Sub t a b) t a b (p, e)
  rest_from (Less t a b) p e = of_pair_from (λ t a b. Less t a b) t a b (p, e)
  rest_from (Equal t a b) p e = of_pair_from (λ t a b. Equal t a b) t a b (p, e)
  rest_from (Choose t c a b) p e =
      let x = spans_split bs (written_target t) (written_operand c ++ (written_operand a ++ written_operand b)) p in
      let y = spans_split bs (written_operand c) (written_operand a ++ written_operand b) x.1 in
      let z = spans_split bs (written_operand a) (written_operand b) y.1 in
      next_from _
      (pair_from t c a (spans_join bs x.0 (spans_join bs y.0 z.0), (grind arith)))
      (next_from _ (operand_from bs f s few fewer b (z.1, (grind arith))) refl)
  rest_from (If c) p e = next_from _ (operand_from bs f s few fewer c (p, e)) refl
  rest_from Else p e = ap (got Else) (none_spans bs p)
  rest_from End p e = ap (got End) (none_spans bs p)

fitting_to : (bs : List ℕ) (ifs : List Bool) {at : ℕ} {k : Kind} {end : ℕ} → fitting_at ifs bs at ≡ got k end → Spans bs at (number (kind_number k)) end × (fits k ifs ≡ true)
fitting_to bs ifs {at} e =
    next_case _ _ e λ k i x e.
    let u = only_where (fits k ifs) _ _ e in
    carried (λ (k : Kind) (i : ℕ). Spans bs at (number (kind_number k)) i × (fits k ifs ≡ true)) u.1 (kind_to bs x, u.0)

-- Statements one after another.
module _ (bs : List ℕ) (f s : ℕ) where
  -- n statements more: they fit the open ifs, what they name is there, and their forms stand from `at` up to end
  pub record More (n : ℕ) (ifs : List Bool) (done : List Statement) (at : ℕ) (xs : List Statement) (end : ℕ) : Type 0 where
    pub more : List Statement
    pub whole : xs ≡ done ++ more
    pub many : length more ≡ n
    pub there : within f s more ≡ true
    pub nest : nested ifs more ≡ true
    pub stand : Spans bs at (written_all more) end

  -- one, and n more after it
  one_more : (n : ℕ) (ifs : List Bool) (done : List Statement) (at : ℕ) (k : Kind) (x : Statement) (i j : ℕ) {xs : List Statement} {end : ℕ} → fitting_at ifs bs at ≡ got k i → RestAt bs f s k i x j → More n (after k ifs) (done ++ (x ∷ [])) j xs end → More (suc n) ifs done at xs end
  one_more n ifs done at k x i j {xs} {end} e p r =
      let u = fitting_to bs ifs e in
      let same : k ≡ kind_of x = sym p.2 in
      record {
        more = x ∷ r.more;
        whole = r.whole ∙ append_assoc done (x ∷ []) r.more;
        many = ap suc r.many;
        there = and_from _ _ p.1 r.there;
        nest = subst (λ (k : Kind). (fits k ifs && nested (after k ifs) r.more) ≡ true) same (and_from _ _ u.1 r.nest);
        stand = spans_join bs (spans_join bs (subst (λ (k : Kind). Spans bs at (number (kind_number k)) i) same u.0) p.0) r.stand;
      }

pub statements_to : (bs : List ℕ) (f s : ℕ) (n : ℕ) (ifs : List Bool) (done : List Statement) {at : ℕ} {xs : List Statement} {end : ℕ} → statements_at n f s bs ifs done at ≡ got xs end → More bs f s n ifs done at xs end
statements_to bs f s zero ifs done {at} e =
    let u = unless (opened ifs) _ _ e in
    carried (More bs f s zero ifs done at) u.1
    (record { more = []; whole = sym (append-nil done); many = refl; there = refl; nest = not_from_false (opened ifs) u.0; stand = spans_none bs at })
statements_to bs f s (suc n) ifs done {at} {xs} {end} e =
    next_case _ _ e λ k i p e.
    next_case _ _ e λ x j q e.
    one_more bs f s n ifs done at k x i j p (rest_to bs f s k q) (statements_to bs f s n (after k ifs) (done ++ (x ∷ [])) e)

pub statements_from : (bs : List ℕ) (f s : ℕ) → f ≤ 16 → s ≤ 8 → (ifs : List Bool) (done xs : List Statement) {at end : ℕ} → within f s xs ≡ true → nested ifs xs ≡ true → Spans bs at (written_all xs) end → statements_at (length xs) f s bs ifs done at ≡ got (done ++ xs) end
statements_from bs f s few fewer ifs done [] {at} h n p =
    cond-false _ _ _ (not-true (opened ifs) n) ∙ (λ i. got (sym (append-nil done) i) (none_spans bs p i))
statements_from bs f s few fewer ifs done (x ∷ xs) {at} {end} h n p =
    let k = kind_of x in
    let a = spans_split bs (written_statement x) (written_all xs) p in
    let b = spans_split bs (number (kind_number k)) (written_rest x) a.0 in
    let y = and_parts (has_all f s x) (within f s xs) h in
    let z = and_parts (fits k ifs) (nested (after k ifs) xs) n in
    next_from _
    (next_from _ (kind_from bs k b.0) (cond-true _ _ _ z.0))
    (next_from _ (rest_from bs f s few fewer x b.1 y.0)
    (statements_from bs f s few fewer (after k ifs) (done ++ (x ∷ [])) xs y.1 z.1 a.1 ∙ ap (λ (l : List Statement). got l end) (append_assoc done (x ∷ []) xs)))

-- the front of a table that holds what was read is well formed
pub table_sound : (n f s : ℕ) (bs : List ℕ) (at : ℕ) (xs : List Statement) (end : ℕ) → got xs end ≡ statements_at n f s bs [] [] at → (within f s xs ≡ true) × (nested [] xs ≡ true)
table_sound n f s bs at xs end e = let r = statements_to bs f s n [] [] (sym e) in (ap (within f s) r.whole ∙ r.there, ap (nested []) r.whole ∙ r.nest)
