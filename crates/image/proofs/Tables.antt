-- One statement more of the table, and the ifs that are left open. Assumes nothing.
use Rattle.std.proofs.Common.{◌≡◌, ℕ, suc, ◌+◌, ◌-◌, ◌<◌, Bool, true, List, [], ◌∷◌, ◌++◌, length, reverse, take, set, refl, ap, ◌∙◌, add-one, arith, take-suc-set}
use Rattle.std.proofs.lemmas.Bool.{cond-true}
use Rattle.std.proofs.lemmas.List.{length-reverse}
use Rattle.transaction.specs.declared.frame.Frame.{Frame}
use Rattle.transaction.specs.declared.statement.Kind.{Kind}
use Rattle.transaction.specs.declared.statement.Statement.{Statement}
use Rattle.transaction.specs.Faults.{refusal}
use Rattle.transaction.specs.Frames.{elses}
use Rattle.transaction.specs.WellFormed.{fits, after, opened}
use Rattle.image.specs.Reading.{got, refused, next, kind_at, fitting_at, rest_at, statements_at}

module _ (count i f s : ℕ) (bs : List ℕ) (at : ℕ) (ifs : List Bool) where
  -- the first of those that are left, and the others after it
  pub step : (done : List Statement) → i < count → statements_at (count - i) f s bs ifs done at ≡ next (fitting_at ifs bs at) (λ k j. next (rest_at k f s bs j) (λ x end. statements_at (count - (i + 1)) f s bs (after k ifs) (done ++ (x ∷ [])) end))
  step done within = let e : count - i ≡ suc (count - (i + 1)) = omega arith in rw e

  -- one that was read, put into the table
  pub one : i < count → (k : Kind) (j : ℕ) → got k j ≡ kind_at bs at → (bs' bs'' : List ℕ) (table : List Statement) (x : Statement) (end : ℕ) (ifs' : List Bool) → i < length table → bs' ≡ bs → bs'' ≡ bs' → true ≡ fits k ifs → ifs' ≡ after k ifs → got x end ≡ rest_at k f s bs' j → statements_at (count - i) f s bs ifs (take i table) at ≡ statements_at (count - (i + 1)) f s bs'' ifs' (take (i + 1) (set table i x)) end
  one within k j e bs' bs'' table x end ifs' h same same' fit o r =
      let r' = rw same at r in step (take i table) within ∙ rw (← e, ← fit, ← r', same', same, o, add-one i, take-suc-set table i x h)

some_open : (frames : List (Frame (Unit {0}))) → 0 < length frames → opened (elses frames) ≡ true
some_open [] h = absurd (omega arith)
some_open (f ∷ frames) h = refl

-- the statements are all read, and an if is open
pub left_open : (n f s : ℕ) (bs : List ℕ) (frames ifs : List (Frame (Unit {0}))) (done : List Statement) (at : ℕ) → n ≡ 0 → reverse ifs ≡ frames → 0 < length ifs → statements_at n f s bs (elses frames) done at ≡ refused (refusal 6 (length bs)) at
left_open n f s bs frames ifs done at none e h =
    rw none (cond-true _ _ _ (some_open frames (omega (arith, length-reverse ifs, ap length e))))
