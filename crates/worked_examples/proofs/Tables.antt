-- The table of lines of given statements. Assumes nothing.
use Rattle.std.proofs.Common.{◌≡◌, ℕ, suc, ◌-◌, ◌<◌, ◌≤◌, Bool, true, false, ◌⊎◌, List, [], ◌∷◌, ◌++◌, length, get_or, take, replicate, sym, refl, ap, ◌∙◌, inl, inr, arith}
use Rattle.std.proofs.lemmas.Bool.{both_ways, or_cases}
use Rattle.transaction.specs.declared.statement.Statement.{Statement}
use Rattle.transaction.specs.declared.statement.Statement.TheVariants.{End}
use Rattle.lines.specs.declared.line.Source.{Source}
use Rattle.lines.specs.declared.line.Line.{Line}
use Rattle.lines.specs.declared.line.Line.TheVariants.{Read}
use Rattle.lines.specs.declared.lines.Lines.{Lines}
use Rattle.lines.specs.Named.{names, some_names, named_of, amount}
use Rattle.lines.specs.Build.{body_of, lines_of, finals_of, updates_of, numbered}
use Rattle.lines.specs.Exact.{Exactly}
use Rattle.lines.specs.Unique.{IsTableOf}
use Rattle.lines.proofs.Blank.{blank_past}
use Rattle.lines.proofs.Finish.{mark, someone, marked_named}
use Rattle.lines.proofs.Table.{Laid, laid}

-- a statement that names a state, where one does
naming : (s : ℕ) (xs : List Statement) → some_names s xs ≡ true → (n : ℕ) × (n < length xs) × (names s (get_or xs n End) ≡ true)
naming s [] e = absurd (both_ways false refl e)
naming s (x ∷ xs) e = go (naming s xs) (or_cases (names s x) (some_names s xs) e)
  where
    go : (some_names s xs ≡ true → (n : ℕ) × (n < length xs) × (names s (get_or xs n End) ≡ true)) → (names s x ≡ true) ⊎ (some_names s xs ≡ true) → (n : ℕ) × (n < length (x ∷ xs)) × (names s (get_or (x ∷ xs) n End) ≡ true)
    go later (inl h) = (0, omega arith, h)
    go later (inr h) = let p = later h in (suc p.0, omega (arith, p.1), p.2)

-- what a table is made of: its lines, what is blank, their number, the named states, the final values, the updates, the
-- read lines and the write lines
pub record MadeOf : Type 0 where
  pub lines : List Line
  pub blank : ℕ
  pub count : ℕ
  pub named : List Bool
  pub finals : List Source
  pub updates : List Source
  pub reads : List ℕ
  pub writes : List ℕ

-- what computing has to show of it
pub record Told (xs : List Statement) (m : MadeOf) : Type 0 where
  pub lines : m.lines ≡ lines_of xs
  pub count : m.count ≡ length m.lines
  pub taken : take m.count (m.lines ++ replicate m.blank (Read 0)) ≡ m.lines
  pub few : m.count ≤ 208
  pub long : length (m.lines ++ replicate m.blank (Read 0)) ≡ 208
  pub named : m.named ≡ named_of xs
  pub eight : length m.named ≡ 8
  pub finals : m.finals ≡ finals_of xs
  pub sixteen : length m.finals ≡ 16
  pub updates : m.updates ≡ updates_of xs
  pub each : length m.updates ≡ 8
  pub reads : m.reads ≡ numbered 0 m.named
  pub writes : m.writes ≡ numbered (m.count - amount m.named) m.named
  pub first : m.count - amount m.named ≡ length (body_of xs).lines

module _ (xs : List Statement) (m : MadeOf) (t : Told xs m) where
  abbrev pub all : List Line
  all = m.lines ++ replicate m.blank (Read 0)

  pub laid_out : Laid m.named all m.count m.finals m.updates
  laid_out = rw (t.named, t.finals, t.updates) (laid xs all m.count (t.taken ∙ t.lines) (t.count ∙ ap length t.lines))

  abbrev pub tabled : Lines
  tabled =
      record {
        lines = all;
        count = m.count;
        named = m.named;
        finals = m.finals;
        updates = m.updates;
        reads = m.reads;
        writes = m.writes;
        few = t.few;
        lines_long = t.long;
        named_long = t.eight;
        finals_long = t.sixteen;
        updates_long = t.each;
        reads_at = t.reads;
        writes_at = t.writes;
        room = laid_out.room;
        reads_first = laid_out.reads_first;
        writes_last = laid_out.writes_last;
        plain = laid_out.plain;
        ordered = laid_out.ordered;
        lines_below = laid_out.lines_below;
        finals_below = laid_out.finals_below;
        updates_below = laid_out.updates_below;
      }

  pub tabled_exactly : IsTableOf xs tabled
  tabled_exactly = record { exact = exact; blank = λ n h. blank_past m.lines m.blank n (omega (arith, t.count)) }
    where
      exact : Exactly xs tabled
      exact =
          record {
            lines = t.taken ∙ t.lines;
            count = t.count ∙ ap length t.lines;
            few = t.few;
            named = t.named;
            marked = λ s e. naming s xs (marked_named xs s (ap (λ (l : List Bool). get_or l s false) (sym t.named) ∙ e));
            naming = λ s k h g e. ap (λ (l : List Bool). get_or l s false) t.named ∙ mark xs s h ∙ someone s k xs g e;
            finals = t.finals;
            updates = t.updates;
            reads = t.reads ∙ ap (numbered 0) t.named;
            writes = t.writes ∙ ap (λ (n : ℕ). numbered n m.named) t.first ∙ ap (numbered _) t.named;
          }
