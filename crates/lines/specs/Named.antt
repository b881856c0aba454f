-- Which states a transaction names. Assumes nothing.
use Rattle.std.specs.Prelude.{ℕ, zero, suc, Bool, true, false, ◌||◌, List, [], ◌∷◌, map, ◌==◌}
use Rattle.transaction.specs.declared.statement.Operand.{Operand}
use Rattle.transaction.specs.declared.statement.Operand.TheVariants.{Field, State, Constant}
use Rattle.transaction.specs.declared.statement.Statement.{Statement}
use Rattle.transaction.specs.declared.statement.Statement.TheVariants.{Copy, Add, Sub, Less, Equal, Choose, If, Else, End}
use Rattle.transaction.specs.Statements.{target_operand}

abbrev pub is_state : ℕ → Operand → Bool
is_state s (Field i) = false
is_state s (State k) = k == s
is_state s (Constant c) = false

-- whether a statement names a state: as its target, as an operand or as its condition
abbrev pub names : ℕ → Statement → Bool
names s (Copy t a) = is_state s (target_operand t) || is_state s a
names s (Add t a b) = is_state s (target_operand t) || (is_state s a || is_state s b)
names s (Sub t a b) = is_state s (target_operand t) || (is_state s a || is_state s b)
names s (Less t a b) = is_state s (target_operand t) || (is_state s a || is_state s b)
names s (Equal t a b) = is_state s (target_operand t) || (is_state s a || is_state s b)
names s (Choose t c a b) = is_state s (target_operand t) || (is_state s c || (is_state s a || is_state s b))
names s (If c) = is_state s c
names s Else = false
names s End = false

-- whether one of these is such
abbrev pub any_of : {A : Type 0} → (A → Bool) → List A → Bool
any_of p [] = false
any_of p (x ∷ xs) = p x || any_of p xs

-- whether one of these names a state
abbrev pub some_names : ℕ → List Statement → Bool
some_names s xs = any_of (names s) xs

-- n numbers, from i on
abbrev pub up_from : ℕ → ℕ → List ℕ
up_from zero i = []
up_from (suc n) i = i ∷ up_from n (suc i)

-- for each of the eight states whether it is named
abbrev pub named_of : List Statement → List Bool
named_of xs = map (λ (s : ℕ). some_names s xs) (up_from 8 0)

-- the named ones, ascending, from state s on
abbrev pub states_from : ℕ → List Bool → List ℕ
states_from s [] = []
states_from s (true ∷ ms) = s ∷ states_from (suc s) ms
states_from s (false ∷ ms) = states_from (suc s) ms

-- how many are named
abbrev pub amount : List Bool → ℕ
amount [] = 0
amount (true ∷ ms) = suc (amount ms)
amount (false ∷ ms) = amount ms
