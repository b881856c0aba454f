-- A packet run alone leaves words where it found words, and as many. Assumes nothing.
use Rattle.std.proofs.Common.{◌≡◌, ℕ, zero, suc, Bool, true, false, cond, ◌&&◌, eqb, ltb, leb, List, [], ◌∷◌, length, set, Some, None, Option, ◌∙◌, arith, length-set, leb-true}
use Rattle.std.proofs.lemmas.Bool.{and_parts}
use Rattle.word.specs.Words.{Word, truth, bit}
use Rattle.transaction.specs.declared.statement.Operand.{Operand}
use Rattle.transaction.specs.declared.statement.Operand.TheVariants.{Field, State, Constant}
use Rattle.transaction.specs.declared.statement.Target.{Target}
use Rattle.transaction.specs.declared.statement.Target.TheVariants.{Field as ToField, State as ToState}
use Rattle.transaction.specs.declared.statement.Statement.{Statement}
use Rattle.transaction.specs.declared.statement.Statement.TheVariants.{Copy, Add, Sub, Less, Equal, Choose, If, Else, End}
use Rattle.transaction.specs.declared.frame.Frame.{Frame}
use Rattle.transaction.specs.WellFormed.{Program, has, has_target, has_all, within, nested, well_formed}
use Rattle.meaning.specs.Serial.{Values, Context, context, operand_in, stored, live, assigned, made, step, run}
use Rattle.book.specs.Book.{Shape}
use Rattle.book.specs.Right.{AllWords, Words, Fits}
use Rattle.book.specs.Theorem.{WordsToWords, KeepsWords}

all_set : (xs : List ℕ) (i x : ℕ) → Word x → AllWords xs → AllWords (set xs i x)
all_set [] i x h a j = omega arith
all_set (y ∷ xs) zero x h a zero = h
all_set (y ∷ xs) zero x h a (suc j) = a (suc j)
all_set (y ∷ xs) (suc i) x h a zero = a 0
all_set (y ∷ xs) (suc i) x h a (suc j) = all_set xs i x h (λ k. a (suc k)) j

words_set : (n : ℕ) (xs : List ℕ) (i x : ℕ) → Word x → Words n xs → Words n (set xs i x)
words_set n xs i x h w = record { size = length-set xs i x ∙ w.size; each = all_set xs i x h w.each }

bit_word : (t : Bool) → Word (bit t)
bit_word true = omega arith
bit_word false = omega arith

either_word : (t : Bool) (a b : ℕ) → Word a → Word b → Word (cond t a b)
either_word true a b h g = h
either_word false a b h g = g

module _ (shape : Shape) where
  stored_fits : (t : Target) (x : ℕ) (v : Values) → Word x → Fits shape v → Fits shape (stored t x v)
  stored_fits (ToField i) x v h k = record { fields = words_set shape.width v.fields i x h k.fields; words = k.words }
  stored_fits (ToState s) x v h k = record { fields = k.fields; words = words_set shape.states v.words s x h k.words }

  operand_word : (f s : ℕ) (a : Operand) (v : Values) → has f s a ≡ true → Fits shape v → Word (operand_in v a)
  operand_word f s (Field i) v e k = k.fields.each i
  operand_word f s (State j) v e k = k.words.each j
  operand_word f s (Constant c) v e k = omega (arith, leb-true c 4294967295 e)

  abbrev WordMade : Option (Target × ℕ) → Type 0
  WordMade (Some p) = Word p.1
  WordMade None = Unit {0}

  assigned_fits : (o : Option (Target × ℕ)) (frames : List (Frame Bool)) (v : Values) → WordMade o → Fits shape v → Fits shape (assigned o frames v)
  assigned_fits None frames v h k = k
  assigned_fits (Some p) frames v h k = elim (live frames) as (λ t. Fits shape (cond t (stored p.0 p.1 v) v)) [ true ↦ stored_fits p.0 p.1 v h k | false ↦ k ]

  module _ (plus minus : ℕ → ℕ → ℕ) (sums : WordsToWords plus) (differences : WordsToWords minus) (f s : ℕ) where
    made_word : (x : Statement) (v : Values) → has_all f s x ≡ true → Fits shape v → WordMade (made plus minus x v)
    made_word (Copy t a) v e k = operand_word f s a v (and_parts (has_target f s t) (has f s a) e).1 k
    made_word (Add t a b) v e k =
        let p = and_parts (has f s a) (has f s b) (and_parts (has_target f s t) (has f s a && has f s b) e).1 in
        sums (operand_in v a) (operand_in v b) (operand_word f s a v p.0 k) (operand_word f s b v p.1 k)
    made_word (Sub t a b) v e k =
        let p = and_parts (has f s a) (has f s b) (and_parts (has_target f s t) (has f s a && has f s b) e).1 in
        differences (operand_in v a) (operand_in v b) (operand_word f s a v p.0 k) (operand_word f s b v p.1 k)
    made_word (Less t a b) v e k = bit_word (ltb (operand_in v a) (operand_in v b))
    made_word (Equal t a b) v e k = bit_word (eqb (operand_in v a) (operand_in v b))
    made_word (Choose t c a b) v e k =
        let p = and_parts (has f s c) (has f s a && has f s b) (and_parts (has_target f s t) (has f s c && (has f s a && has f s b)) e).1 in
        let q = and_parts (has f s a) (has f s b) p.1 in
        either_word (truth (operand_in v c)) (operand_in v a) (operand_in v b) (operand_word f s a v q.0 k) (operand_word f s b v q.1 k)
    made_word (If c) v e k = tt
    made_word Else v e k = tt
    made_word End v e k = tt

    run_fits : (xs : List Statement) (h : Context) → within f s xs ≡ true → Fits shape h.values → Fits shape (run plus minus xs h).values
    run_fits [] h e k = k
    run_fits (x ∷ xs) h e k =
        let p = and_parts (has_all f s x) (within f s xs) e in
        run_fits xs (step plus minus x h) p.1 (assigned_fits (made plus minus x h.values) h.nest h.values (made_word x h.values p.0 k) k)

named_within : (p : Program) → well_formed p ≡ true → within p.fields p.states p.statements ≡ true
named_within p e =
    let a = (and_parts (leb 1 p.fields && leb p.fields 16) (leb p.states 8 && (leb (length p.statements) 48 && (within p.fields p.states p.statements && nested [] p.statements))) e).1 in
    let b = (and_parts (leb p.states 8) (leb (length p.statements) 48 && (within p.fields p.states p.statements && nested [] p.statements)) a).1 in
    let c = (and_parts (leb (length p.statements) 48) (within p.fields p.states p.statements && nested [] p.statements) b).1 in
    (and_parts (within p.fields p.states p.statements) (nested [] p.statements) c).0

pub keeps_words : (plus minus : ℕ → ℕ → ℕ) → WordsToWords plus → WordsToWords minus → KeepsWords plus minus
keeps_words plus minus sums differences p e shape v k =
    run_fits shape plus minus sums differences p.fields p.states p.statements (context v []) (named_within p e) k
