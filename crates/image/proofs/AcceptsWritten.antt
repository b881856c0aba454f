-- An image is accepted exactly when it is the written form of a well-formed transaction. Assumes nothing.
use Rattle.std.proofs.Common.{◌≡◌, ℕ, ◌≤◌, true, ◌||◌, ltb, List, [], ◌++◌, length, Ok, Err, Result, sym, ap, ◌∙◌, subst, arith}
use Rattle.std.proofs.lemmas.Bool.Decides.{nat_tests}
use Rattle.std.proofs.lemmas.Bool.{or_parts, or_from, ltb-false, le-ltb, cond-false}
use Rattle.transaction.specs.declared.fault.ReadFault.{ReadFault}
use Rattle.transaction.specs.declared.statement.Statement.{Statement}
use Rattle.transaction.specs.declared.transaction.Transaction.{Transaction}
use Rattle.transaction.specs.WellFormed.{Program, within, nested, well_formed}
use Rattle.image.specs.Reading.{Answer, got, answered, answer, said, told_by, image_says, within_at, program_at}
use Rattle.image.specs.Writing.{number, written_all, written}
use Rattle.image.specs.Theorem.{AcceptsWritten, ReadExactly}
use Rattle.image.proofs.GoodReads.{carried, unless, answer_good, next_case, next_from}
use Rattle.image.proofs.Spans.{Spans, spans_join, spans_split, spans_whole, whole_spans}
use Rattle.image.proofs.WrittenNumbers.{number_from, number_to}
use Rattle.image.proofs.WrittenStatements.{More, statements_to, statements_from}

-- a number in its range
abbrev WithinAt : ℕ → ℕ → List ℕ → ℕ → ℕ → ℕ → Type 0
WithinAt low high bs at n end = Spans bs at (number n) end × (low ≤ n) × (n ≤ high)

pub within_to : (low high : ℕ) (bs : List ℕ) {at n end : ℕ} → within_at low high bs at ≡ got n end → WithinAt low high bs at n end
within_to low high bs {at} e =
    next_case _ _ e λ n i x e.
    let u = unless (ltb n low || ltb high n) _ _ e in
    let h = or_parts (ltb n low) (ltb high n) u.0 in
    carried (WithinAt low high bs at) u.1 ((number_to bs x).0, ltb-false n low h.0, ltb-false high n h.1)

within_from : (low high : ℕ) (bs : List ℕ) {at : ℕ} (n : ℕ) {end : ℕ} → high ≤ 48 → WithinAt low high bs at n end → within_at low high bs at ≡ got n end
within_from low high bs n few p = next_from _ (number_from bs p.0 (omega arith)) (cond-false _ _ _ (or_from _ _ (le-ltb n low p.1) (le-ltb high n p.2)))

-- a well-formed transaction, test by test
record Well (f s : ℕ) (xs : List Statement) : Type 0 where
  some_fields : 1 ≤ f
  few_fields : f ≤ 16
  few_states : s ≤ 8
  few : length xs ≤ 48
  there : within f s xs ≡ true
  nest : nested [] xs ≡ true

well_to : {f s : ℕ} {xs : List Statement} → Well f s xs → well_formed (record { fields = f; states = s; statements = xs }) ≡ true
well_to w = grind (arith, nat_tests)

well_from : (p : Program) → well_formed p ≡ true → Well p.fields p.states p.statements
well_from p e =
    record {
      some_fields = grind (arith, nat_tests);
      few_fields = grind (arith, nat_tests);
      few_states = grind (arith, nat_tests);
      few = grind (arith, nat_tests);
      there = grind (arith, nat_tests);
      nest = grind (arith, nat_tests);
    }

module _ (bs : List ℕ) where
  -- p is well formed and bs is its written form, wherever the reading ended
  abbrev WrittenWell : Program → ℕ → Type 0
  WrittenWell p end = (well_formed p ≡ true) × (bs ≡ written p)

  -- the parts of an image, one after another up to its end
  whole_image : {v f s n i j k l end : ℕ} {xs : List Statement} → WithinAt 1 1 bs 0 v i → WithinAt 1 16 bs i f j → WithinAt 0 8 bs j s k → WithinAt 0 48 bs k n l → More bs f s n [] [] l xs end → length bs ≤ end → WrittenWell (record { fields = f; states = s; statements = xs }) end
  whole_image {v} {f} {s} {n} {i} {j} {k} {l} {end} v-at f-at s-at n-at m h =
      let one : v ≡ 1 = omega (arith, v-at.1, v-at.2) in
      let version : Spans bs 0 (number 1) i = subst (λ (x : ℕ). Spans bs 0 (number x) i) one v-at.0 in
      let count : Spans bs k (number (length m.more)) l = subst (λ (x : ℕ). Spans bs k (number x) l) (sym m.many) n-at.0 in
      let few : length m.more ≤ 48 = omega (arith, m.many, n-at.2) in
      let parts = spans_join bs version (spans_join bs f-at.0 (spans_join bs s-at.0 (spans_join bs count m.stand))) in
      subst (λ (xs : List Statement). WrittenWell (record { fields = f; states = s; statements = xs }) end) (sym m.whole) (
        well_to (record { some_fields = f-at.1; few_fields = f-at.2; few_states = s-at.2; few = few; there = m.there; nest = m.nest }),
        spans_whole bs _ end h parts,
      )

  program_to : {p : Program} {end : ℕ} → program_at bs 0 ≡ got p end → WrittenWell p end
  program_to e =
      next_case _ _ e λ v i v-at e.
      next_case _ _ e λ f j f-at e.
      next_case _ _ e λ s k s-at e.
      next_case _ _ e λ n l n-at e.
      next_case _ _ e λ xs end xs-at e.
      let u = unless (ltb end (length bs)) _ _ e in
      carried WrittenWell u.1
      (whole_image (within_to 1 1 bs v-at) (within_to 1 16 bs f-at) (within_to 0 8 bs s-at) (within_to 0 48 bs n-at) (statements_to bs f s n [] [] xs-at) (ltb-false end (length bs) u.0))

  program_from : (p : Program) → well_formed p ≡ true → Spans bs 0 (written p) (length bs) → program_at bs 0 ≡ got p (length bs)
  program_from p e stand =
      let f = p.fields in
      let s = p.states in
      let xs = p.statements in
      let w = well_from p e in
      let c = number (length xs) ++ written_all xs in
      let v-at = spans_split bs (number 1) (number f ++ (number s ++ c)) stand in
      let f-at = spans_split bs (number f) (number s ++ c) v-at.1 in
      let s-at = spans_split bs (number s) c f-at.1 in
      let n-at = spans_split bs (number (length xs)) (written_all xs) s-at.1 in
      next_from _ (within_from 1 1 bs 1 (omega arith) (v-at.0, omega arith, omega arith))
      (next_from _ (within_from 1 16 bs f (omega arith) (f-at.0, w.some_fields, w.few_fields))
      (next_from _ (within_from 0 8 bs s (omega arith) (s-at.0, omega arith, w.few_states))
      (next_from _ (within_from 0 48 bs (length xs) (omega arith) (n-at.0, omega arith, w.few))
      (next_from _ (statements_from bs f s w.few_fields w.few_states [] [] xs w.there w.nest n-at.1)
      (cond-false _ _ _ (le-ltb (length bs) (length bs) (omega arith)))))))

pub accepts_written : AcceptsWritten
accepts_written = record {
  accepted = λ bs p e. program_to bs (answer_good (program_at bs 0) e).1;
  reads_back = λ p e. ap answer (program_from (written p) p e (whole_spans (written p)));
}

pub read_exactly : (bs : List ℕ) (a : Answer Program) → a ≡ image_says bs → ReadExactly bs a
read_exactly bs a e = record {
  answer = e;
  accepted = λ p h. accepts_written.accepted bs p (sym e ∙ h);
  complete = λ p w same. e ∙ ap image_says same ∙ accepts_written.reads_back p w;
}

-- the answer where reading began at the first byte
pub told_at : (r : Result Transaction ReadFault) (at : ℕ) (bs : List ℕ) → answered (said r) at ≡ program_at bs 0 → told_by r ≡ image_says bs
told_at (Ok t) at bs e = ap answer e
told_at (Err f) at bs e = ap answer e
