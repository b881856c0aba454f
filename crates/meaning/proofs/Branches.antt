-- Of each if exactly the part runs that its condition chose. Assumes nothing.
use Rattle.std.proofs.Common.{◌≡◌, ℕ, Bool, true, false, cond, not, ◌&&◌, List, [], ◌∷◌, ◌++◌, Some, None, Option, refl, ap, ◌∙◌, arith}
use Rattle.std.proofs.lemmas.Bool.{and_parts}
use Rattle.word.specs.Words.{truth}
use Rattle.transaction.specs.declared.statement.Target.{Target}
use Rattle.transaction.specs.declared.statement.Statement.{Statement}
use Rattle.transaction.specs.declared.statement.Statement.TheVariants.{Copy, Add, Sub, Less, Equal, Choose, If, Else, End}
use Rattle.transaction.specs.declared.frame.Frame.{Frame}
use Rattle.transaction.specs.Statements.{kind_of}
use Rattle.transaction.specs.Frames.{elses}
use Rattle.transaction.specs.WellFormed.{opened, fits, after, nested}
use Rattle.meaning.specs.Serial.{Values, Context, context, operand_in, stored, live, assigned, nest_after, made, step, run, alone}
use Rattle.meaning.specs.Structure.{Whole, Structured}

pub live_append : (l m : List (Frame Bool)) → live (l ++ m) ≡ (live l && live m)
live_append [] m = refl
live_append (f ∷ l) m = grind (arith, live_append l m)

and_true : (b c : Bool) → c ≡ true → (b && c) ≡ b
and_true true c e = e
and_true false c e = refl

and_false : (b c : Bool) → c ≡ false → (b && c) ≡ false
and_false true c e = e
and_false false c e = refl

-- the open ifs after a statement, by what well-formedness keeps of them
pub after_elses : (x : Statement) (v : Values) (l : List (Frame Bool)) → elses (nest_after x v l) ≡ after (kind_of x) (elses l)
after_elses (Copy t a) v l = refl
after_elses (Add t a b) v l = refl
after_elses (Sub t a b) v l = refl
after_elses (Less t a b) v l = refl
after_elses (Equal t a b) v l = refl
after_elses (Choose t c a b) v l = refl
after_elses (If c) v l = refl
after_elses Else v [] = refl
after_elses Else v (f ∷ l) = refl
after_elses End v [] = refl
after_elses End v (f ∷ l) = refl

-- a statement that fits the inner open ifs leaves the outer ones
after_inner : (x : Statement) (v : Values) (l m : List (Frame Bool)) → fits (kind_of x) (elses l) ≡ true → nest_after x v (l ++ m) ≡ nest_after x v l ++ m
after_inner (Copy t a) v l m e = refl
after_inner (Add t a b) v l m e = refl
after_inner (Sub t a b) v l m e = refl
after_inner (Less t a b) v l m e = refl
after_inner (Equal t a b) v l m e = refl
after_inner (Choose t c a b) v l m e = refl
after_inner (If c) v l m e = refl
after_inner Else v [] m e = cc
after_inner Else v (f ∷ l) m e = refl
after_inner End v [] m e = cc
after_inner End v (f ∷ l) m e = refl

none_open : (l : List (Frame Bool)) → not (opened (elses l)) ≡ true → l ≡ []
none_open [] e = refl
none_open (f ∷ l) e = cc

module _ (plus minus : ℕ → ℕ → ℕ) where
  run_append : (xs ys : List Statement) (h : Context) → run plus minus (xs ++ ys) h ≡ run plus minus ys (run plus minus xs h)
  run_append [] ys h = refl
  run_append (x ∷ xs) ys h = run_append xs ys (step plus minus x h)

  -- inside open ifs whose written part runs, whole statements act as they do alone
  module _ (m : List (Frame Bool)) (on : live m ≡ true) where
    same_assigned : (o : Option (Target × ℕ)) (l : List (Frame Bool)) (v : Values) → assigned o (l ++ m) v ≡ assigned o l v
    same_assigned (Some p) l v = ap (λ (b : Bool). cond b (stored p.0 p.1 v) v) (live_append l m ∙ and_true (live l) (live m) on)
    same_assigned None l v = refl

    runs : (xs : List Statement) (v : Values) (l : List (Frame Bool)) → nested (elses l) xs ≡ true → run plus minus xs (context v (l ++ m)) ≡ context (run plus minus xs (context v l)).values m
    runs [] v l e = ap (λ (n : List (Frame Bool)). context v (n ++ m)) (none_open l e)
    runs (x ∷ xs) v l e =
        let p = and_parts (fits (kind_of x) (elses l)) (nested (after (kind_of x) (elses l)) xs) e in
        let w : Values = assigned (made plus minus x v) l v in
        let n : List (Frame Bool) = nest_after x v l in
        ap (λ (h : Values). run plus minus xs (context h (nest_after x v (l ++ m)))) (same_assigned (made plus minus x v) l v) ∙ ap (λ (k : List (Frame Bool)). run plus minus xs (context w k)) (after_inner x v l m p.0) ∙ runs xs w n (ap (λ (b : List Bool). nested b xs) (after_elses x v l) ∙ p.1)

  -- inside open ifs of which some other part runs, they change nothing
  module _ (m : List (Frame Bool)) (off : live m ≡ false) where
    none_assigned : (o : Option (Target × ℕ)) (l : List (Frame Bool)) (v : Values) → assigned o (l ++ m) v ≡ v
    none_assigned (Some p) l v = ap (λ (b : Bool). cond b (stored p.0 p.1 v) v) (live_append l m ∙ and_false (live l) (live m) off)
    none_assigned None l v = refl

    passes : (xs : List Statement) (v : Values) (l : List (Frame Bool)) → nested (elses l) xs ≡ true → run plus minus xs (context v (l ++ m)) ≡ context v m
    passes [] v l e = ap (λ (n : List (Frame Bool)). context v (n ++ m)) (none_open l e)
    passes (x ∷ xs) v l e =
        let p = and_parts (fits (kind_of x) (elses l)) (nested (after (kind_of x) (elses l)) xs) e in
        let n : List (Frame Bool) = nest_after x v l in
        ap (λ (h : Values). run plus minus xs (context h (nest_after x v (l ++ m)))) (none_assigned (made plus minus x v) l v) ∙ ap (λ (k : List (Frame Bool)). run plus minus xs (context v k)) (after_inner x v l m p.0) ∙ passes xs v n (ap (λ (b : List Bool). nested b xs) (after_elses x v l) ∙ p.1)

  abbrev frame : Bool → Bool → List (Frame Bool)
  frame t s = record { on = t; second = s } ∷ []

  stores : (o : Option (Target × ℕ)) (t : Target) (n : ℕ) (v : Values) → o ≡ Some (t, n) → context (assigned o [] v) [] ≡ context (stored t n v) []
  stores o t n v e = ap (λ (o : Option (Target × ℕ)). context (assigned o [] v) []) e

  assigns : (x : Statement) (t : Target) (n : ℕ) (v : Values) → made plus minus x v ≡ Some (t, n) → step plus minus x (context v []) ≡ context (stored t n v) []
  assigns (Copy u a) t n v e = stores _ t n v e
  assigns (Add u a b) t n v e = stores _ t n v e
  assigns (Sub u a b) t n v e = stores _ t n v e
  assigns (Less u a b) t n v e = stores _ t n v e
  assigns (Equal u a b) t n v e = stores _ t n v e
  assigns (Choose u c a b) t n v e = stores _ t n v e
  assigns (If c) t n v e = cc
  assigns Else t n v e = cc
  assigns End t n v e = cc

  -- an if of which the first part runs, or the second
  part : (t : Bool) (a b rest : List Statement) (v : Values) → Whole a → Whole b → run plus minus (a ++ (Else ∷ (b ++ (End ∷ rest)))) (context v (frame t false)) ≡ run plus minus rest (context (cond t (alone plus minus a v) (alone plus minus b v)) [])
  part true a b rest v e f =
      let w : Values = alone plus minus a v in
      run_append a (Else ∷ (b ++ (End ∷ rest))) (context v (frame true false)) ∙ ap (run plus minus (Else ∷ (b ++ (End ∷ rest)))) (runs (frame true false) refl a v [] e) ∙ run_append b (End ∷ rest) (context w (frame true true)) ∙ ap (run plus minus (End ∷ rest)) (passes (frame true true) refl b w [] f)
  part false a b rest v e f =
      run_append a (Else ∷ (b ++ (End ∷ rest))) (context v (frame false false)) ∙ ap (run plus minus (Else ∷ (b ++ (End ∷ rest)))) (passes (frame false false) refl a v [] e) ∙ run_append b (End ∷ rest) (context v (frame false true)) ∙ ap (run plus minus (End ∷ rest)) (runs (frame false true) refl b v [] f)

  lone : (t : Bool) (a rest : List Statement) (v : Values) → Whole a → run plus minus (a ++ (End ∷ rest)) (context v (frame t false)) ≡ run plus minus rest (context (cond t (alone plus minus a v) v) [])
  lone true a rest v e = run_append a (End ∷ rest) (context v (frame true false)) ∙ ap (run plus minus (End ∷ rest)) (runs (frame true false) refl a v [] e)
  lone false a rest v e = run_append a (End ∷ rest) (context v (frame false false)) ∙ ap (run plus minus (End ∷ rest)) (passes (frame false false) refl a v [] e)

  pub structured : Structured plus minus
  structured = record {
    nothing = λ v. refl;
    assignment = λ x t n rest v e. ap (λ (h : Context). (run plus minus rest h).values) (assigns x t n v e);
    branches = λ c a b rest v e f. ap (λ (h : Context). h.values) (part (truth (operand_in v c)) a b rest v e f);
    branch = λ c a rest v e. ap (λ (h : Context). h.values) (lone (truth (operand_in v c)) a rest v e);
  }
