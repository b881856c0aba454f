-- The highest of a codelet's lines.
use Rattle.std.proofs.Common.{ℕ, Option, sym, ap, ◌∙◌, unwrap_or, arith, rules, tests}
use Rattle.std.proofs.lemmas.Iterator.{YieldsList-from_range, YieldsList-from_map}
use Rattle.std.proofs.lemmas.Iterator.Adapters.{option_map_id}
use Rattle.std.proofs.lemmas.Iterator.Consumers.{max_from_yields_List, YieldsList-at, YieldsList-from_filter}
use Rattle.line_graph.specs.Edges.{line_at}
use Rattle.codelets.specs.Codelets.{in_codelet}
use Rattle.rows.specs.Passes.{row_at, line_top, outside_of}
use Rattle.rows.proofs.Highest.{highest_kept, highest_same}
use Rattle.rows.proofs.Tops.{top_same}
use Rattle.rows.proofs.ranking.atom_top.Goals as goal

pub returns : goal.returns
returns c =
    let r = c.args.c.now.lines in
    let s : ℕ = c.args.s in
    let seen : ℕ → ℕ = λ i. line_top (row_at c.outside-seen.result) (line_at r i) in
    let f : ℕ → ℕ = λ i. line_top (outside_of r s (row_at c.args.rows.now)) (line_at r i) in
    c.unwrap_or.ensures
    ∙ (ap (λ (o : Option ℕ). unwrap_or o 0) (sym (option_map_id c.max.result) ∙ max_from_yields_List c.map.result _ c.max.ensures.ran (YieldsList-from_map _ seen (YieldsList-at c.map.ensures.source (YieldsList-from_filter _ (in_codelet r s) (YieldsList-from_range 0 r.count r.count c.filter.ensures.source (omega arith)) c.filter.ensures.closure (λ n b q k. search (rules, tests)))) c.map.ensures.closure (λ n v q k. search rules)))
    ∙ (highest_kept r.count (in_codelet r s) seen
    ∙ highest_same r.count (in_codelet r s) seen f (λ m lt e. top_same (line_at r m) (row_at c.outside-seen.result) (outside_of r s (row_at c.args.rows.now)) c.outside-seen.ensures)))
