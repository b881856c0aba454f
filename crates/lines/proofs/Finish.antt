-- A builder that has made all lines holds the definition's list. Assumes nothing.
use Rattle.std.proofs.Common.{◌≡◌, ℕ, suc, ◌-◌, ◌<◌, ◌≤◌, Bool, true, false, ◌⊎◌, List, [], ◌∷◌, ◌++◌, length, get_or, take, sym, refl, ap, ◌∙◌, ap₂, inl, inr, zero-add, arith, length-take-le}
use Rattle.std.proofs.lemmas.List.{length-map, get_or-map, get_or_past}
use Rattle.std.proofs.lemmas.List.Recursion.{or_at}
use Rattle.std.proofs.lemmas.Bool.{both_ways, cases_lt, or_cases}
use Rattle.transaction.specs.declared.statement.Statement.{Statement}
use Rattle.transaction.specs.declared.statement.Statement.TheVariants.{End}
use Rattle.lines.specs.declared.line.Line.{Line}
use Rattle.lines.specs.declared.builder.Builder.{Builder}
use Rattle.lines.specs.declared.lines.Lines.{Lines}
use Rattle.lines.specs.Named.{names, some_names, up_from, named_of, amount}
use Rattle.lines.specs.Build.{Draft, start, adds_all, write_lines, body_of, lines_of, finals_of, updates_of, numbered}
use Rattle.lines.specs.View.{draft_of}
use Rattle.lines.specs.Exact.{Exactly}
use Rattle.lines.proofs.Numbers.{up_at, up_long}
use Rattle.lines.proofs.Table.{Laid, laid, lines_long}

pub named_long : (xs : List Statement) → length (named_of xs) ≡ 8
named_long xs = length-map (up_from 8 0) (λ (s : ℕ). some_names s xs) ∙ up_long 8 0

-- a state's mark
pub mark : (xs : List Statement) (s : ℕ) → s < 8 → get_or (named_of xs) s false ≡ some_names s xs
mark xs s h = get_or-map (λ (k : ℕ). some_names k xs) (up_from 8 0) s 0 false (omega (arith, up_long 8 0)) ∙ ap (λ (k : ℕ). some_names k xs) (up_at 8 0 s 0 h ∙ zero-add s)

abbrev Naming : ℕ → List Statement → Type 0
Naming s xs = (n : ℕ) × (n < length xs) × (names s (get_or xs n End) ≡ true)

naming : (s : ℕ) (xs : List Statement) → some_names s xs ≡ true → Naming s xs
naming s [] e = absurd (both_ways false refl e)
naming s (x ∷ xs) e = go (naming s xs) (or_cases (names s x) (some_names s xs) e)
  where
    go : (some_names s xs ≡ true → Naming s xs) → (names s x ≡ true) ⊎ (some_names s xs ≡ true) → Naming s (x ∷ xs)
    go later (inl h) = (0, omega arith, h)
    go later (inr h) = let p = later h in (suc p.0, omega (arith, p.1), p.2)

pub someone : (s n : ℕ) (xs : List Statement) → n < length xs → names s (get_or xs n End) ≡ true → some_names s xs ≡ true
someone s n xs h e = or_at (some_names s) (names s) refl (λ x ys. refl) xs n End h e

pub marked_named : (xs : List Statement) (s : ℕ) → get_or (named_of xs) s false ≡ true → some_names s xs ≡ true
marked_named xs s e = go (cases_lt s 8)
  where
    go : (s < 8) ⊎ (8 ≤ s) → some_names s xs ≡ true
    go (inl h) = sym (mark xs s h) ∙ e
    go (inr h) = absurd (both_ways _ (get_or_past (named_of xs) s false (omega (arith, named_long xs))) e)

module _ (xs : List Statement) (N : List Bool) (named : N ≡ named_of xs) (b b' : Builder) (made : draft_of b ≡ adds_all xs (start N)) (lines : take b'.count b'.lines ≡ take b.count b.lines ++ write_lines N b.states) (fields : b'.fields ≡ b.fields) (states : b'.states ≡ b.states) where
  body : draft_of b ≡ body_of xs
  body = made ∙ ap (λ (ms : List Bool). adds_all xs (start ms)) named

  pub holds : take b'.count b'.lines ≡ lines_of xs
  holds = lines ∙ ap₂ (λ (d : Draft) (ms : List Bool). d.lines ++ write_lines ms d.latest.states) body named

  pub count : b'.count ≡ length (lines_of xs)
  count = sym (length-take-le b'.count b'.lines (omega (arith, b'.room, b'.lines_long))) ∙ ap length holds

  pub finals : b'.fields ≡ finals_of xs
  finals = fields ∙ ap (λ (d : Draft). d.latest.fields) body

  pub updates : b'.states ≡ updates_of xs
  updates = states ∙ ap (λ (d : Draft). d.latest.states) body

  pub first : b.count ≡ length (body_of xs).lines
  first = sym (length-take-le b.count b.lines (omega (arith, b.room, b.lines_long))) ∙ ap (λ (d : Draft). length d.lines) body

  pub laid_out : Laid N b'.lines b'.count b'.fields b'.states
  laid_out = rw (named, finals, updates) (laid xs b'.lines b'.count holds count)

  pub first_write : b.count ≡ b'.count - amount N
  first_write = let e : amount N ≡ amount (named_of xs) = ap amount named in omega (arith, first, count, lines_long xs)

  pub exactly : (r : Lines) → r.lines ≡ b'.lines → r.count ≡ b'.count → r.named ≡ N → r.finals ≡ b'.fields → r.updates ≡ b'.states → r.reads ≡ numbered 0 N → r.writes ≡ numbered b.count N → Exactly xs r
  exactly r a c n f u rs ws =
      record {
        lines = ap₂ (λ (k : ℕ) (l : List Line). take k l) c a ∙ holds;
        count = c ∙ count;
        few = r.few;
        named = n ∙ named;
        marked = λ s e. naming s xs (marked_named xs s (ap (λ (l : List Bool). get_or l s false) (sym (n ∙ named)) ∙ e));
        naming = λ s k h g e. ap (λ (l : List Bool). get_or l s false) (n ∙ named) ∙ mark xs s h ∙ someone s k xs g e;
        finals = f ∙ finals;
        updates = u ∙ updates;
        reads = rs ∙ ap (numbered 0) named;
        writes = ws ∙ ap₂ numbered first named;
      }
