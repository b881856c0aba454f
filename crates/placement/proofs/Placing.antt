-- What a node reads is made in an earlier stage. Assumes nothing.
use Rattle.std.proofs.Common.{◌≡◌, ℕ, ◌<◌, ◌≤◌, true, List, get_or, is_some, None, Option, sym, ap, ◌∙◌, ⊎_elim, arith}
use Rattle.std.proofs.lemmas.Bool.{and_parts, both_ways, cases_lt}
use Rattle.lines.specs.declared.lines.Lines.{Lines}
use Rattle.stages.specs.declared.node.Node.{Node}
use Rattle.stages.specs.declared.node.Stages.{Stages}
use Rattle.stages.specs.WellStaged.{WellStaged}
use Rattle.rows.specs.Sorts.{is_node}
use Rattle.rows.specs.Makers.{makes, Reads}
use Rattle.rows.specs.Placed.{Placed}
use Rattle.rows.proofs.Sorting.{sort_past, makers_stand}

-- a node's number is a line's
node_low : (r : Lines) (n : ℕ) → is_node r n ≡ true → n < 208
node_low r n e =
    ⊎_elim
    (λ h. let few : r.count ≤ 208 = r.few in omega arith)
    (λ h. absurd (both_ways (is_node r n) (ap is_some (sort_past r n h)) e))
    (cases_lt n r.count)

module _ (r : Lines) (sorts : List (Option Node)) (rows : List ℕ) (placed : Placed r sorts rows) where
  there : (n : ℕ) → is_node r n ≡ true → is_some (get_or sorts n None) ≡ true
  there n e = ap is_some (placed.nodes n) ∙ e

  back : (n : ℕ) → is_some (get_or sorts n None) ≡ true → is_node r n ≡ true
  back n e = ap is_some (sym (placed.nodes n)) ∙ e

  pub earlier : (P Q : ℕ) (s : Stages) → WellStaged (record { sorts = sorts; rows = rows }) P Q s → (m n : ℕ) → Reads r m n → get_or s.stage_of m 0 < get_or s.stage_of n 0
  earlier P Q s well m n e =
      let node = (and_parts (is_node r n) (makes r m n) ((makers_stand r m n).reads.1 e)).0 in
      let low = placed.lower m n e in
      well.earlier m n (node_low r m (back m low.0)) (node_low r n node) low.0 (there n node) low.1
