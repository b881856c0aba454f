-- Which states are named. Assumes nothing.
use Rattle.std.proofs.Common.{◌≡◌, ℕ, ◌<◌, Bool, true, false, ◌&&◌, ◌||◌, List, [], ◌∷◌, refl, ap, ⊎_elim, arith}
use Rattle.std.proofs.lemmas.Bool.{and_parts, both_ways, eqb-true, ltb-true, or_cases}
use Rattle.transaction.specs.declared.statement.Operand.{Operand}
use Rattle.transaction.specs.declared.statement.Operand.TheVariants.{Field, State, Constant}
use Rattle.transaction.specs.declared.statement.Target.{Target}
use Rattle.transaction.specs.declared.statement.Target.TheVariants.{Field as ToField, State as ToState}
use Rattle.transaction.specs.declared.statement.Statement.TheVariants.{Copy, Add, Sub, Less, Equal, Choose, If, Else, End}
use Rattle.transaction.specs.Statements.{target_operand}
use Rattle.transaction.specs.WellFormed.{has, has_target, has_all, within}
use Rattle.transaction.specs.declared.statement.Statement.{Statement}
use Rattle.std.specs.List.{list_any}
use Rattle.lines.specs.Named.{is_state, names, any_of, some_names}

-- a state that a statement names is there where all that it names is there
module _ (f n s : ℕ) where
  operand_there : (a : Operand) → has f n a ≡ true → is_state s a ≡ true → s < n
  operand_there (Field i) h e = absurd (both_ways false refl e)
  operand_there (State k) h e = let q : k ≡ s = eqb-true k s e in let r : k < n = ltb-true k n h in omega arith
  operand_there (Constant c) h e = absurd (both_ways false refl e)

  target_there : (t : Target) → has_target f n t ≡ true → is_state s (target_operand t) ≡ true → s < n
  target_there (ToField i) h e = operand_there (Field i) h e
  target_there (ToState k) h e = operand_there (State k) h e

  one_of : (a b p q : Bool) → (a ≡ true → p ≡ true → s < n) → (b ≡ true → q ≡ true → s < n) → (a && b) ≡ true → (p || q) ≡ true → s < n
  one_of a b p q l r h e = let k = and_parts a b h in ⊎_elim (l k.0) (r k.1) (or_cases p q e)

  two_there : (a b : Operand) → (has f n a && has f n b) ≡ true → (is_state s a || is_state s b) ≡ true → s < n
  two_there a b = one_of (has f n a) (has f n b) (is_state s a) (is_state s b) (operand_there a) (operand_there b)

  pair_there : (t : Target) (a b : Operand) → (has_target f n t && (has f n a && has f n b)) ≡ true → (is_state s (target_operand t) || (is_state s a || is_state s b)) ≡ true → s < n
  pair_there t a b = one_of (has_target f n t) (has f n a && has f n b) (is_state s (target_operand t)) (is_state s a || is_state s b) (target_there t) (two_there a b)

  statement_there : (x : Statement) → has_all f n x ≡ true → names s x ≡ true → s < n
  statement_there (Copy t a) h e = one_of (has_target f n t) (has f n a) (is_state s (target_operand t)) (is_state s a) (target_there t) (operand_there a) h e
  statement_there (Add t a b) h e = pair_there t a b h e
  statement_there (Sub t a b) h e = pair_there t a b h e
  statement_there (Less t a b) h e = pair_there t a b h e
  statement_there (Equal t a b) h e = pair_there t a b h e
  statement_there (Choose t c a b) h e =
      one_of (has_target f n t) (has f n c && (has f n a && has f n b)) (is_state s (target_operand t)) (is_state s c || (is_state s a || is_state s b)) (target_there t)
      (one_of (has f n c) (has f n a && has f n b) (is_state s c) (is_state s a || is_state s b) (operand_there c) (two_there a b)) h e
  statement_there (If c) h e = operand_there c h e
  statement_there Else h e = absurd (both_ways false refl e)
  statement_there End h e = absurd (both_ways false refl e)

  pub named_there : (xs : List Statement) → within f n xs ≡ true → some_names s xs ≡ true → s < n
  named_there [] h e = absurd (both_ways false refl e)
  named_there (x ∷ xs) h e = one_of (has_all f n x) (within f n xs) (names s x) (some_names s xs) (statement_there x) (named_there xs) h e

-- std's word for the same
pub any_of-list_any : {A : Type 0} (p : A → Bool) (xs : List A) → any_of p xs ≡ list_any p xs
any_of-list_any p [] = refl
any_of-list_any p (x ∷ xs) = ap (λ b. p x || b) (any_of-list_any p xs)
