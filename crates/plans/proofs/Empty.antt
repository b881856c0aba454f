-- One empty stage for no lines. Assumes nothing.
use Rattle.std.proofs.Common.{◌≡◌, ℕ, zero, suc, ◌+◌, ◌≤◌, max, Bool, false, not, eqb, List, [], get_or, is_some, None, Option, sym, refl, ap, ◌∙◌, subst, arith}
use Rattle.std.proofs.lemmas.Bool.{and_left, and_right, both_ways}
use Rattle.transaction.specs.declared.transaction.Transaction.{Transaction}
use Rattle.transaction.specs.declared.statement.Statement.{Statement}
use Rattle.transaction.specs.WellFormed.{Program}
use Rattle.transaction.specs.Programs.{statements_of, program_of}
use Rattle.lines.specs.declared.lines.Lines.{Lines}
use Rattle.lines.specs.Named.{named_of}
use Rattle.lines.specs.Exact.{Exactly}
use Rattle.codelets.specs.declared.codelets.Codelets.{Codelets}
use Rattle.codelets.specs.Codelets.{is_named, write_of, meets, crowds, is_owner, Owned, Alone, Coded}
use Rattle.codelets.proofs.Owners.{coded}
use Rattle.codelets.proofs.Turns.{some_none}
use Rattle.stages.specs.declared.node.Node.{Node}
use Rattle.stages.specs.declared.node.Nodes.{Nodes}
use Rattle.stages.specs.declared.node.Stages.{Stages}
use Rattle.stages.specs.Filling.{highest, is_node, row_of, below, placed, stage_of, stage_count}
use Rattle.stages.specs.WellStaged.{WellStaged}
use Rattle.stages.proofs.Places.{well_staged}
use Rattle.stages.proofs.Widths.{below_zero, below_suc, width_none, highest_within}
use Rattle.rows.specs.Placed.{Placed}
use Rattle.rows.proofs.Sorting.{sort_past, placed as tables_placed}
use Rattle.placement.specs.Placement.{WellPlaced}
use Rattle.placement.proofs.Placing.{earlier}
use Rattle.plans.specs.Idle.{idle_program, one, Bare}

-- without statements there are no lines
pub bare : (t : Transaction) (r : Lines) → program_of t ≡ idle_program → Exactly (statements_of t) r → Bare r
bare t r e x = go (statements_of t) (ap {B = List Statement} (λ (p : Program). p.statements) e) x
  where
    none_named : (s : ℕ) → get_or (named_of []) s false ≡ false
    none_named zero = refl
    none_named (suc zero) = refl
    none_named (suc (suc zero)) = refl
    none_named (suc (suc (suc zero))) = refl
    none_named (suc (suc (suc (suc zero)))) = refl
    none_named (suc (suc (suc (suc (suc zero))))) = refl
    none_named (suc (suc (suc (suc (suc (suc zero)))))) = refl
    none_named (suc (suc (suc (suc (suc (suc (suc zero))))))) = refl
    none_named (suc (suc (suc (suc (suc (suc (suc (suc s)))))))) = refl

    go : (xs : List Statement) → xs ≡ [] → Exactly xs r → Bare r
    go xs q y =
        let z : Exactly [] r = subst (λ (l : List Statement). Exactly l r) q y in
        record { none = z.count; unnamed = λ s. ap {B = Bool} (λ (l : List Bool). get_or l s false) z.named ∙ none_named s }

module _ (r : Lines) (b : Bare r) where
  pub unowned : (owner : List (Option ℕ)) → ((n : ℕ) → get_or owner n None ≡ None) → Owned r owner
  unowned owner e s n =
      ap {B = Bool} (λ (o : Option ℕ). is_owner o s) (e n) ∙ sym (and_left (is_named r s) (meets r (write_of r s) n) (b.unnamed s))

  pub apart : Alone r
  apart s = some_none 8 (crowds r s) (λ t _. and_right (not (eqb t s)) _ (and_left (is_named r t) _ (b.unnamed t)))

  module _ (c : Codelets) (x : Nodes) (y : Stages) (same : c.lines ≡ r) (none : (n : ℕ) → get_or x.sorts n None ≡ None) (first : (n : ℕ) → get_or y.stage_of n 0 ≡ 0) (count : y.count ≡ 1) where
    no_node : (n : ℕ) → is_node x n ≡ false
    no_node n = ap {B = Bool} is_some (none n)

    tables : Placed r x.sorts x.rows
    tables = tables_placed r x.sorts x.rows (λ n. none n ∙ sym (sort_past r n (omega (arith, b.none)))) (λ n h. absurd (omega (arith, b.none)))

    no_stage : (n : ℕ) → get_or y.stage_of n 0 ≡ stage_of x 1 1 n
    no_stage n = first n ∙ sym (ap {B = ℕ} (λ (o : Option Node). placed x 1 1 (below x 1 1 (row_of x n)) n o) (none n))

    one_stage : y.count ≡ stage_count x 1 1
    one_stage =
        let high : highest 208 (is_node x) (row_of x) ≤ 0 = highest_within 208 (is_node x) (row_of x) 0 (λ k _ e. absurd (both_ways _ (no_node k) e)) in
        let zeroth : highest 208 (is_node x) (row_of x) + 1 ≡ suc 0 = omega arith in
        let empty : below x 1 1 (suc 0) ≡ 0 = below_suc x 1 1 0 ∙ (let u = below_zero x 1 1 in let v = width_none x 1 1 (omega arith) (omega arith) 0 (λ k _ e _. both_ways _ (no_node k) e) in omega arith) in
        count ∙ sym (ap {B = ℕ} (λ n. max 1 (below x 1 1 n)) zeroth ∙ ap {B = ℕ} (max 1) empty)

    pub placed_empty : WellPlaced r one (record { codelets = c; nodes = x; stages = y })
    placed_empty =
        record {
          lines = same;
          owners = subst (λ (l : Lines). Coded l c.owner) same (coded c.lines c.owner c.owned c.alone);
          rows = tables;
          each = λ n _. no_stage n;
          count = one_stage;
          within = omega (arith, count);
          filled = staged;
          earlier = earlier r x.sorts x.rows tables 1 1 y staged;
        }
      where
        staged : WellStaged x 1 1 y
        staged = well_staged x 1 1 (omega arith) (omega arith) y.stage_of y.count (λ n _. no_stage n) one_stage
