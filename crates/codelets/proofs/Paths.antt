-- What is computed of codelets is exactly what paths say. Assumes nothing.
use Rattle.std.proofs.Common.{◌≡◌, ℕ, ◌<◌, true, false, not, ◌&&◌, eqb, Decides, sym, ap, ◌∙◌, ⊎_elim, arith}
use Rattle.std.proofs.lemmas.Bool.{both_ways, cases_lt, and_from, and_parts, not-true, not_from_false, ne_eqb, eqb-false}
use Rattle.std.proofs.lemmas.List.{get_or_past}
use Rattle.graph.specs.Paths.{Path}
use Rattle.graph.proofs.Paths.{path_to, path_then, path_turned}
use Rattle.graph.proofs.Rounds.{some_decides, reached_decides}
use Rattle.lines.specs.declared.lines.Lines.{Lines}
use Rattle.line_graph.specs.Edges.{edge}
use Rattle.codelets.specs.Codelets.{is_named, write_of, InCodelet, meets, in_codelet, CodeletsByPaths, Shares, crowds, crowded, CrowdedByPaths}

module _ (r : Lines) where
  pub meets_decides : (w n : ℕ) → Decides (meets r w n) (Path r.count (edge r) w n × Path r.count (edge r) n w)
  meets_decides w n = (
    λ e. let (p, q) = and_parts _ _ e in ((reached_decides r.count (edge r) w n).0 p, path_turned r.count (λ a b. edge r b a) ((reached_decides r.count (λ a b. edge r b a) w n).0 q)),
    λ (p, q). and_from _ _ ((reached_decides r.count (edge r) w n).1 p) ((reached_decides r.count (λ a b. edge r b a) w n).1 (path_turned r.count (edge r) q)),
  )

  pub codelet_decides : (s n : ℕ) → Decides (in_codelet r s n) (InCodelet r s n)
  codelet_decides s n = (
    λ e. let (k, m) = and_parts (is_named r s) _ e in let (p, q) = (meets_decides (write_of r s) n).0 m in record { named = k; from = p; back = q },
    λ i. and_from _ _ i.named ((meets_decides (write_of r s) n).1 (i.from, i.back)),
  )

  -- where a named state's write line meets line n, n is in the state's codelet
  pub named_in : (s n w : ℕ) → is_named r s ≡ true → w ≡ write_of r s → meets r w n ≡ in_codelet r s n
  named_in s n w named e = ap (λ w. meets r w n) e ∙ sym (ap (λ b. b && meets r (write_of r s) n) named)

  -- a named state is one of eight
  pub named_below : (s : ℕ) → is_named r s ≡ true → s < 8
  named_below s e = ⊎_elim (λ h. h) (λ h. absurd (both_ways _ (get_or_past r.named s false (omega (arith, r.named_long))) e)) (cases_lt s 8)

  pub crowded_decides : (s : ℕ) → Decides (crowded r s) (Shares r s)
  crowded_decides s = (
    λ e. let (t, h, c) = (some_decides (crowds r s) 8).0 e in let (ne, d) = and_parts (not (eqb t s)) _ c in let (k, i) = and_parts (is_named r t) _ d in
        (t, eqb-false t s (not-true _ ne), k, (codelet_decides s (write_of r t)).0 i),
    λ (t, ne, k, i). (some_decides (crowds r s) 8).1 (t, named_below t k, and_from _ _ (not_from_false _ (ne_eqb t s ne)) (and_from _ _ k ((codelet_decides s (write_of r t)).1 i))),
  )

  -- lines of one codelet reach each other
  pub same_codelet : (s t n : ℕ) → InCodelet r s n → InCodelet r t n → InCodelet r s (write_of r t)
  same_codelet s t n a b = record { named = a.named; from = path_then r.count (edge r) a.from b.back; back = path_then r.count (edge r) b.from a.back }

  pub in_below : (s n : ℕ) → in_codelet r s n ≡ true → n < r.count
  in_below s n e = path_to r.count (edge r) ((codelet_decides s n).0 e).from

pub codelets_by_paths : CodeletsByPaths
codelets_by_paths = codelet_decides

pub crowded_by_paths : CrowdedByPaths
crowded_by_paths = crowded_decides
