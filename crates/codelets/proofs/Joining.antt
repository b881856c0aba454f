-- A state's read line and write line are in its codelet, and no other read or write line is. Assumes nothing.
use Rattle.std.proofs.Common.{◌≡◌, ℕ, ◌<◌, ◌≤◌, true, get_or, sym, refl, ap, ◌∙◌, subst, ap₂, ⊎_elim, arith}
use Rattle.std.proofs.lemmas.Bool.{both_ways, cases_lt, or_left, or_right, eq-eqb}
use Rattle.graph.specs.Paths.{here}
use Rattle.graph.proofs.Paths.{path_edge}
use Rattle.lines.specs.declared.line.Line.{Line}
use Rattle.lines.specs.declared.line.Line.TheVariants.{Read, Write}
use Rattle.lines.specs.declared.line.Source.TheVariants.{Constant as Fixed}
use Rattle.lines.specs.declared.lines.Lines.{Lines}
use Rattle.lines.specs.Layout.{is_plain}
use Rattle.lines.specs.Exact.{first_write}
use Rattle.line_graph.specs.Edges.{line_at, read_by, pairs, edge}
use Rattle.codelets.specs.Codelets.{is_named, read_of, write_of, Joined, StatesJoined}
use Rattle.codelets.proofs.InOrder.{read_below, write_below, read_line, write_line_lem, unwritten, written}

module _ (r : Lines) where
  module _ (s : ℕ) (named : is_named r s ≡ true) where
    paired : pairs (line_at r (read_of r s)) (line_at r (write_of r s)) ≡ true
    paired = ap₂ (λ (a b : Line). pairs a b) (read_line r s named) (write_line_lem r s named) ∙ eq-eqb s s refl

    there : edge r (read_of r s) (write_of r s) ≡ true
    there = or_right (read_by r (read_of r s) (write_of r s)) _ (or_left _ _ paired)

    again : edge r (write_of r s) (read_of r s) ≡ true
    again = or_right (read_by r (write_of r s) (read_of r s)) _ (or_right (pairs (line_at r (write_of r s)) (line_at r (read_of r s))) _ paired)

    pub joined : Joined r s
    joined =
        let f = read_below r s named in
        let l = write_below r s named in
        record {
          first = f;
          last = l;
          there = there;
          again = again;
          read = record { named = named; from = path_edge r.count (edge r) (write_of r s) (read_of r s) l f again; back = path_edge r.count (edge r) (read_of r s) (write_of r s) f l there };
          write = record { named = named; from = here l; back = here l };
        }

  not_plain : (s n : ℕ) → line_at r n ≡ Read s → is_plain (line_at r n) ≡ true → ⊥
  not_plain s n e p = both_ways _ (ap is_plain e) p

  -- a read line is its state's
  pub read_of_lem : (s n : ℕ) → n < r.count → line_at r n ≡ Read s → (is_named r s ≡ true) × (read_of r s ≡ n)
  read_of_lem s n h e = ⊎_elim low high (cases_lt n (first_write r))
    where
      low : n < first_write r → (is_named r s ≡ true) × (read_of r s ≡ n)
      low lt =
          ⊎_elim (λ (t, k, q). let same : s ≡ t = state_same s t (sym e ∙ (ap (line_at r) (sym q) ∙ read_line r t k)) in subst (λ u. (is_named r u ≡ true) × (read_of r u ≡ n)) (sym same) (k, q)) (λ p. absurd (not_plain s n e p)) (unwritten r n lt)
        where
          state_same : (s t : ℕ) → Read s ≡ Read t → s ≡ t
          state_same s t q = cc

      high : first_write r ≤ n → (is_named r s ≡ true) × (read_of r s ≡ n)
      high le = let (t, k, q) = written r n le h in absurd (apart s t (get_or r.updates t (Fixed 0)) (sym e ∙ (ap (line_at r) (sym q) ∙ write_line_lem r t k)))
        where
          apart : (s t : ℕ) (x : _) → Read s ≡ Write t x → ⊥
          apart s t x q = let z : ◌≡◌ {A = ℕ} 0 1 = cc in omega arith

pub states_joined : StatesJoined
states_joined r s named = joined r s named
