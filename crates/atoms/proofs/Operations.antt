-- The operation that an update is gives the update's value. Assumes nothing.
use Rattle.std.proofs.Common.{◌≡◌, ℕ, Bool, true, false, cond, not, ◌&&◌, List, Some, None, sym, refl, ap, ◌∙◌, subst}
use Rattle.std.proofs.lemmas.Bool.{and_parts, false≢true}
use Rattle.word.specs.Words.{Word}
use Rattle.lines.specs.declared.line.Source.{Source}
use Rattle.lines.specs.declared.line.Source.TheVariants.{Field, Line as Made, Constant}
use Rattle.lines.specs.declared.line.Line.{Line}
use Rattle.lines.specs.declared.line.Line.TheVariants.{Read, Copy, Add, Sub, Less, Equal, Choose, Write}
use Rattle.resolving.specs.declared.codelet.Codelet.{Codelet}
use Rattle.resolving.specs.declared.decided.Decided.{Decided}
use Rattle.resolving.specs.declared.packet.Packet.{Packet}
use Rattle.resolving.specs.declared.leaf.Operation.{Operation}
use Rattle.resolving.specs.declared.leaf.Operation.TheVariants.{Set, Add as ToAdd, Subtract}
use Rattle.resolving.specs.Classes.{sum_of, difference_of, operation_in, operation_at, operation_of}
use Rattle.resolving.specs.Codelets.{line_at, is_inner, inner_line, value, makes, Words, Satisfies}
use Rattle.resolving.specs.Leaves.{is_old, is_leaf, is_other, leaf_of, leaf_value, NamesWord, OperatesOnWord, operand, result}
use Rattle.lines.specs.Layout.{sources_of}
use Rattle.resolving.specs.Resolving.{table, resolved_to}
use Rattle.resolving.specs.Sameness.{Holds}
use Rattle.resolving.proofs.Keeps.{keeps_values}
use Rattle.atoms.specs.Kinds.{add_result}
use Rattle.atoms.specs.Rightness.{Brings, Each, Right}
use Rattle.settings.specs.Settings.{operation_from}
use Rattle.atoms.proofs.Classes.{sets, adds}
use Rattle.atoms.proofs.Carried.{resolved_reaches}
use Rattle.atoms.proofs.Values.{WhereSome, at_some, leaf_word, old_value, leaf_gives}

module _ (plus minus : ℕ → ℕ → ℕ) (swap : (a b : ℕ) → Word a → Word b → plus a b ≡ plus b a) (cod : Codelet) (d : Decided) where
  module _ (old : ℕ) (all packet : Packet) (word : Word old) (words : Words all) (sat : Satisfies plus minus cod old all) (holds : Holds d all) (inner : (n : ℕ) → is_inner cod n ≡ true → Each (Brings cod all packet) (sources_of (line_at cod n))) where
    -- an operation makes v of the old word
    abbrev Gives : ℕ → Operation → Type 0
    Gives v o = NamesWord (operand o) → result plus minus o old packet ≡ v

    leaf_of_lem : (a : Source) → is_leaf cod a ≡ true → Brings cod all packet a → leaf_value (leaf_of cod a) old packet ≡ value all a
    leaf_of_lem a = leaf_gives plus minus cod old all sat packet a

    other_leaf : (a : Source) → is_other cod a ≡ true → is_leaf cod a ≡ true
    other_leaf a e = (and_parts (is_leaf cod a) (not (is_old cod a)) e).0

    sum_gives : (x y : Source) (v : ℕ) → v ≡ plus (value all x) (value all y) → Brings cod all packet x → Brings cod all packet y → WhereSome (sum_of cod x y) (Gives v)
    sum_gives x y v e bx by = go (is_old cod x && is_other cod y) (is_other cod x && is_old cod y) refl refl
      where
        go : (b c : Bool) → (is_old cod x && is_other cod y) ≡ b → (is_other cod x && is_old cod y) ≡ c → WhereSome (cond b (Some (ToAdd (leaf_of cod y))) (cond c (Some (ToAdd (leaf_of cod x))) None)) (Gives v)
        go true c h k = λ w.
            let p = and_parts (is_old cod x) (is_other cod y) h in
            ap (plus old) (leaf_of_lem y (other_leaf y p.1) by) ∙ ap (λ i. plus i (value all y)) (sym (old_value plus minus cod old all sat x p.0)) ∙ sym e
        go false true h k = λ w.
            let p = and_parts (is_other cod x) (is_old cod y) k in
            ap (plus old) (leaf_of_lem x (other_leaf x p.0) bx)
            ∙ swap old (value all x) word (leaf_word cod all words x w)
            ∙ ap (plus (value all x)) (sym (old_value plus minus cod old all sat y p.1))
            ∙ sym e
        go false false h k = tt

    difference_gives : (x y : Source) (v : ℕ) → v ≡ minus (value all x) (value all y) → Brings cod all packet y → WhereSome (difference_of cod x y) (Gives v)
    difference_gives x y v e by = go (is_old cod x && is_other cod y) refl
      where
        go : (b : Bool) → (is_old cod x && is_other cod y) ≡ b → WhereSome (cond b (Some (Subtract (leaf_of cod y))) None) (Gives v)
        go true h = λ w.
            let p = and_parts (is_old cod x) (is_other cod y) h in
            ap (minus old) (leaf_of_lem y (other_leaf y p.1) by) ∙ ap (λ i. minus i (value all y)) (sym (old_value plus minus cod old all sat x p.0)) ∙ sym e
        go false h = tt

    keeps : (a : Source) → value all (resolved_to cod d a) ≡ value all a
    keeps a = keeps_values cod d plus minus old all sat holds a

    brings : (a : Source) → Brings cod all packet a → Brings cod all packet (resolved_to cod d a)
    brings a = resolved_reaches cod d (Brings cod all packet) inner a

    line_gives : (v : ℕ) (l : Line) → v ≡ makes plus minus all old l → Each (Brings cod all packet) (sources_of l) → WhereSome (operation_in cod (table cod d 208) (Some l)) (Gives v)
    line_gives v (Read s) e b = tt
    line_gives v (Copy a) e b = tt
    line_gives v (Add x y) e b = sum_gives (resolved_to cod d x) (resolved_to cod d y) v (e ∙ sym (rw (keeps x, keeps y) refl)) (brings x b.0) (brings y b.1.0)
    line_gives v (Sub x y) e b = difference_gives (resolved_to cod d x) (resolved_to cod d y) v (e ∙ sym (rw (keeps x, keeps y) refl)) (brings y b.1.0)
    line_gives v (Less x y) e b = tt
    line_gives v (Equal x y) e b = tt
    line_gives v (Choose c x y) e b = tt
    line_gives v (Write s a) e b = tt

    inner_gives : (r : Source) → WhereSome (operation_in cod (table cod d 208) (inner_line cod r)) (Gives (value all r))
    inner_gives (Field i) = tt
    inner_gives (Made n) = go (is_inner cod n) refl
      where
        go : (b : Bool) → is_inner cod n ≡ b → WhereSome (operation_in cod (table cod d 208) (cond b (Some (line_at cod n)) None)) (Gives (value all (Made n)))
        go true e = line_gives (value all (Made n)) (line_at cod n) (sat.inner n e) (inner n e)
        go false e = tt
    inner_gives (Constant w) = tt

    source_gives : (r : Source) → Brings cod all packet r → WhereSome (operation_at cod (table cod d 208) r) (Gives (value all r))
    source_gives r b = go (is_leaf cod r) refl
      where
        go : (q : Bool) → is_leaf cod r ≡ q → WhereSome (cond q (Some (Set (leaf_of cod r))) (operation_in cod (table cod d 208) (inner_line cod r))) (Gives (value all r))
        go true e = λ w. leaf_of_lem r e b
        go false e = inner_gives r

    operation_gives : (u : Source) (o : Operation) → Brings cod all packet u → operation_of cod d u ≡ Some o → NamesWord (operand o) → result plus minus o old packet ≡ value all u
    operation_gives u o b e w = at_some (operation_of cod d u) o (Gives (value all (resolved_to cod d u))) e (source_gives (resolved_to cod d u) (brings u b)) w ∙ keeps u

  -- a setting that says the update's operation is right for an atom that does this operation
  pub operation_right : (does : Operation → ℕ → Packet → ℕ) (u : Source) (s : List ℕ) → operation_of cod d u ≡ Some (operation_from s) → OperatesOnWord (operation_of cod d u) → ((old : ℕ) (p : Packet) → does (operation_from s) old p ≡ result plus minus (operation_from s) old p) → Right plus minus (λ n old p. does (operation_from n) old p) cod d u s
  unfolding Right
  operation_right does u s is named same = λ old all packet word words sat holds carries.
      same old packet ∙ operation_gives old all packet word words sat holds carries.inner u (operation_from s) carries.written is (subst OperatesOnWord is named)

-- what an atom does of an operation that it takes
module _ (plus minus : ℕ → ℕ → ℕ) (old : ℕ) (p : Packet) where
  pub sets_does : (o : Operation) → sets (Some o) ≡ true → leaf_value (operand o) old p ≡ result plus minus o old p
  sets_does (Set v) e = refl
  sets_does (ToAdd v) e = absurd (false≢true e)
  sets_does (Subtract v) e = absurd (false≢true e)

  pub adds_does : (o : Operation) → adds (Some o) ≡ true → add_result plus o old p ≡ result plus minus o old p
  adds_does (Set v) e = refl
  adds_does (ToAdd v) e = refl
  adds_does (Subtract v) e = absurd (false≢true e)
