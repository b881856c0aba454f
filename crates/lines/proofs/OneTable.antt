-- The lines of statements are one table, and no other. Assumes nothing.
use Rattle.std.proofs.Common.{◌≡◌, ℕ, ◌<◌, ◌≤◌, ◌⊎◌, List, get_or, sym, ap, ◌∙◌, inl, inr, arith}
use denote.Struct.Record.{values_one}
use Rattle.std.proofs.lemmas.List.{get_or-take, ext_get_or}
use Rattle.std.proofs.lemmas.Bool.{cases_lt}
use Rattle.transaction.specs.declared.statement.Statement.{Statement}
use Rattle.lines.specs.declared.line.Line.{Line}
use Rattle.lines.specs.declared.line.Line.TheVariants.{Read}
use Rattle.lines.specs.declared.lines.Lines.{Lines}
use Rattle.lines.specs.contracts.lines.Lines.{struct, the_type}
use Rattle.lines.specs.Exact.{Exactly}
use Rattle.lines.specs.Unique.{IsTableOf, LinesUnique}

module _ (xs : List Statement) (r s : Lines) (t : IsTableOf xs r) (u : IsTableOf xs s) where
  x : Exactly xs r
  x = t.exact

  y : Exactly xs s
  y = u.exact

  counts : r.count ≡ s.count
  counts = x.count ∙ sym y.count

  lines_at : (n : ℕ) → (n < r.count) ⊎ (r.count ≤ n) → get_or r.lines n (Read 0) ≡ get_or s.lines n (Read 0)
  lines_at n (inl h) =
      sym (get_or-take r.count r.lines n (Read 0) h)
      ∙ ap {B = Line} (λ l. get_or l n (Read 0)) (x.lines ∙ sym y.lines)
      ∙ get_or-take s.count s.lines n (Read 0) (omega (arith, counts))
  lines_at n (inr h) = t.blank n h ∙ sym (u.blank n (omega (arith, counts)))

  tables : r.lines ≡ s.lines
  tables = ext_get_or (Read 0) r.lines s.lines (r.lines_long ∙ sym s.lines_long) (λ n _. lines_at n (cases_lt n r.count))

  pub same_lines : r ≡ s
  same_lines =
      values_one struct the_type.propositions r s (λ i. (tables i, (counts i, ((x.named ∙ sym y.named) i, ((x.finals ∙ sym y.finals) i, ((x.updates ∙ sym y.updates) i, ((x.reads ∙ sym y.reads) i, ((x.writes ∙ sym y.writes) i, tt))))))))

pub unique : LinesUnique
unique = same_lines
