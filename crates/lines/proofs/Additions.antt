-- Statements that are well nested, one after another. Assumes nothing.
use Rattle.std.proofs.Common.{◌≡◌, ℕ, ◌+◌, ◌<◌, Bool, true, List, [], ◌∷◌, length, get_or, drop, sym, refl, ap, ◌∙◌}
use Rattle.std.proofs.lemmas.Bool.{and_parts}
use Rattle.std.proofs.lemmas.List.{at_drop_more}
use Rattle.transaction.specs.declared.statement.Statement.{Statement}
use Rattle.transaction.specs.declared.statement.Statement.TheVariants.{Copy, Add, Sub, Less, Equal, Choose, If, Else, End}
use Rattle.transaction.specs.declared.frame.Frame.{Frame}
use Rattle.transaction.specs.Statements.{kind_of}
use Rattle.transaction.specs.Frames.{elses}
use Rattle.transaction.specs.WellFormed.{fits, after, nested}
use Rattle.lines.specs.declared.line.Source.{Source}
use Rattle.lines.specs.Build.{Draft, draft, adds, adds_all}

-- the open ifs after a statement, by what well-formedness keeps of them
adds_elses : (x : Statement) (d : Draft) → elses (adds x d).nest ≡ after (kind_of x) (elses d.nest)
adds_elses (Copy t a) d = refl
adds_elses (Add t a b) d = refl
adds_elses (Sub t a b) d = refl
adds_elses (Less t a b) d = refl
adds_elses (Equal t a b) d = refl
adds_elses (Choose t c a b) d = refl
adds_elses (If c) d = refl
adds_elses Else d = turns d.nest
  where
    turns : (fs : List (Frame Source)) → elses (adds Else (draft d.lines d.latest fs)).nest ≡ after (kind_of Else) (elses fs)
    turns [] = refl
    turns (f ∷ fs) = refl
adds_elses End d = closes d.nest
  where
    closes : (fs : List (Frame Source)) → elses (adds End (draft d.lines d.latest fs)).nest ≡ after (kind_of End) (elses fs)
    closes [] = refl
    closes (f ∷ fs) = refl

module _ (xs : List Statement) (i : ℕ) (z : Statement) (room : i < length xs) (d : Draft) (nests : nested (elses d.nest) (drop i xs) ≡ true) where
  parts : (fits (kind_of (get_or xs i z)) (elses d.nest) ≡ true) × (nested (after (kind_of (get_or xs i z)) (elses d.nest)) (drop (i + 1) xs) ≡ true)
  parts = and_parts (fits (kind_of (get_or xs i z)) (elses d.nest)) _ (sym (at_drop_more (nested (elses d.nest)) xs i z room) ∙ nests)

  pub fits_here : fits (kind_of (get_or xs i z)) (elses d.nest) ≡ true
  fits_here = parts.0

  pub nests_on : (d' : Draft) → d' ≡ adds (get_or xs i z) d → nested (elses d'.nest) (drop (i + 1) xs) ≡ true
  nests_on d' e = ap (λ (ifs : List Bool). nested ifs (drop (i + 1) xs)) (ap (λ (b : Draft). elses b.nest) e ∙ adds_elses (get_or xs i z) d) ∙ parts.1

  -- one statement more
  pub adds_here : (d' : Draft) → d' ≡ adds (get_or xs i z) d → adds_all (drop (i + 1) xs) d' ≡ adds_all (drop i xs) d
  adds_here d' e = ap (adds_all (drop (i + 1) xs)) e ∙ sym (at_drop_more (λ (ys : List Statement). adds_all ys d) xs i z room)
