-- A fork's predicate picks the arm that has the update's value. Assumes nothing.
use Rattle.std.proofs.Common.{◌≡◌, ℕ, zero, suc, ◌+◌, ◌-◌, ◌*◌, ◌≤◌, Bool, true, false, cond, ◌&&◌, List, [], ◌∷◌, length, get_or, take, drop, set, Some, None, Option, sym, refl, ap, ◌∙◌, subst, ap₂, arith}
use borrow.Rule.Slice.PartMut.{put_mid}
use Rattle.std.proofs.lemmas.Bool.{and_parts}
use Rattle.word.specs.Words.{truth, less_than, equal_to, chosen}
use Rattle.lines.specs.declared.line.Source.{Source}
use Rattle.lines.specs.declared.line.Source.TheVariants.{Field, Line as Made, Constant}
use Rattle.lines.specs.declared.line.Line.{Line}
use Rattle.lines.specs.declared.line.Line.TheVariants.{Read, Copy, Add, Sub, Less, Equal, Choose, Write}
use Rattle.resolving.specs.declared.codelet.Codelet.{Codelet}
use Rattle.resolving.specs.declared.decided.Decided.{Decided}
use Rattle.resolving.specs.declared.fork.Fork.{Fork}
use Rattle.resolving.specs.declared.leaf.Leaf.{Leaf}
use Rattle.resolving.specs.declared.leaf.Predicate.{Predicate}
use Rattle.resolving.specs.declared.leaf.Predicate.TheVariants.{Always, True, Less as IsLess, Equal as IsEqual}
use Rattle.resolving.specs.declared.packet.Packet.{Packet}
use Rattle.resolving.specs.Classes.{comparison_of, comparison_in, predicate_at, fork_on, fork_in, fork_of}
use Rattle.resolving.specs.Codelets.{line_at, is_inner, inner_line, value, makes, Satisfies}
use Rattle.resolving.specs.Leaves.{is_leaf, leaf_of, leaf_value, holds_at}
use Rattle.lines.specs.Layout.{sources_of}
use Rattle.resolving.specs.Resolving.{table, resolved_to}
use Rattle.resolving.specs.Sameness.{Agrees, Holds, decide}
use Rattle.resolving.proofs.Keeps.{keeps_values}
use Rattle.choice.specs.Choice.{choice_ran}
use Rattle.atoms.specs.Rightness.{Brings, Each, Right}
use Rattle.settings.specs.Settings.{predicate_from}
use Rattle.atoms.proofs.Carried.{resolved_reaches}
use Rattle.choice.proofs.Parts.{first_length, first_head, first_part, second_head, second_keeps, second_part, same_predicate}
use Rattle.atoms.proofs.Values.{WhereSome, at_some, leaf_gives}

-- DECIDED CONDITIONS
agrees_set : (xs : List (Option Bool)) (n m : ℕ) (b : Bool) (v : ℕ → ℕ) → truth (v n) ≡ b → Agrees (get_or xs m None) (v m) → Agrees (get_or (set xs n (Some b)) m None) (v m)
agrees_set [] n m b v e h = h
agrees_set (x ∷ xs) zero zero b v e h = e
agrees_set (x ∷ xs) zero (suc m) b v e h = h
agrees_set (x ∷ xs) (suc n) zero b v e h = h
agrees_set (x ∷ xs) (suc n) (suc m) b v e h = agrees_set xs n m b (λ k. v (suc k)) e h

decide_holds : (p : Packet) (d : Decided) (c : Source) (b : Bool) → truth (value p c) ≡ b → Holds d p → Holds (decide d c b) p
decide_holds p d (Field i) b e h (Field j) = agrees_set d.fields i j b (λ k. get_or p.fields k 0) e (h (Field j))
decide_holds p d (Field i) b e h (Made m) = h (Made m)
decide_holds p d (Field i) b e h (Constant w) = h (Constant w)
decide_holds p d (Made n) b e h (Field j) = h (Field j)
decide_holds p d (Made n) b e h (Made m) = agrees_set d.lines n m b (λ k. get_or p.lines k 0) e (h (Made m))
decide_holds p d (Made n) b e h (Constant w) = h (Constant w)
decide_holds p d (Constant n) b e h x = h x

-- FORKS
module _ (plus minus : ℕ → ℕ → ℕ) (cod : Codelet) (d : Decided) (old : ℕ) (all packet : Packet) (sat : Satisfies plus minus cod old all) (holds : Holds d all) (inner : (n : ℕ) → is_inner cod n ≡ true → Each (Brings cod all packet) (sources_of (line_at cod n))) where
  -- a predicate is true where the value v is
  abbrev Tests : ℕ → Predicate → Type 0
  Tests v p = holds_at p old packet ≡ truth v

  record Picks (v : ℕ) (f : Fork) : Type 0 where
    picks : v ≡ chosen (value all f.condition) (value all f.first) (value all f.second)
    tests : Tests (value all f.condition) f.predicate
    first : Brings cod all packet f.first
    second : Brings cod all packet f.second

  leaf_of_lem : (a : Source) → is_leaf cod a ≡ true → Brings cod all packet a → leaf_value (leaf_of cod a) old packet ≡ value all a
  leaf_of_lem a = leaf_gives plus minus cod old all sat packet a

  keeps : (a : Source) → value all (resolved_to cod d a) ≡ value all a
  keeps a = keeps_values cod d plus minus old all sat holds a

  brings : (a : Source) → Brings cod all packet a → Brings cod all packet (resolved_to cod d a)
  brings a = resolved_reaches cod d (Brings cod all packet) inner a

  comparison_tests : (test : Leaf → Leaf → Predicate) (compare : ℕ → ℕ → ℕ) → ((a b : Leaf) → holds_at (test a b) old packet ≡ truth (compare (leaf_value a old packet) (leaf_value b old packet))) → (x y : Source) (v : ℕ) → v ≡ compare (value all x) (value all y) → Brings cod all packet x → Brings cod all packet y → WhereSome (comparison_of cod test x y) (Tests v)
  comparison_tests test compare is x y v e bx by = go (is_leaf cod x && is_leaf cod y) refl
    where
      go : (b : Bool) → (is_leaf cod x && is_leaf cod y) ≡ b → WhereSome (cond b (Some (test (leaf_of cod x) (leaf_of cod y))) None) (Tests v)
      go true h =
          let p = and_parts (is_leaf cod x) (is_leaf cod y) h in
          is (leaf_of cod x) (leaf_of cod y) ∙ ap truth (ap₂ compare (leaf_of_lem x p.0 bx) (leaf_of_lem y p.1 by) ∙ sym e)
      go false h = tt

  line_tests : (v : ℕ) (l : Line) → v ≡ makes plus minus all old l → Each (Brings cod all packet) (sources_of l) → WhereSome (comparison_in cod (table cod d 208) (Some l)) (Tests v)
  line_tests v (Read s) e b = tt
  line_tests v (Copy a) e b = tt
  line_tests v (Add x y) e b = tt
  line_tests v (Sub x y) e b = tt
  line_tests v (Less x y) e b = comparison_tests IsLess less_than (λ a b. refl) (resolved_to cod d x) (resolved_to cod d y) v (e ∙ sym (rw (keeps x, keeps y) refl)) (brings x b.0) (brings y b.1.0)
  line_tests v (Equal x y) e b = comparison_tests IsEqual equal_to (λ a b. refl) (resolved_to cod d x) (resolved_to cod d y) v (e ∙ sym (rw (keeps x, keeps y) refl)) (brings x b.0) (brings y b.1.0)
  line_tests v (Choose c x y) e b = tt
  line_tests v (Write s a) e b = tt

  inner_tests : (c : Source) → WhereSome (comparison_in cod (table cod d 208) (inner_line cod c)) (Tests (value all c))
  inner_tests (Field i) = tt
  inner_tests (Made n) = go (is_inner cod n) refl
    where
      go : (b : Bool) → is_inner cod n ≡ b → WhereSome (comparison_in cod (table cod d 208) (cond b (Some (line_at cod n)) None)) (Tests (value all (Made n)))
      go true e = line_tests (value all (Made n)) (line_at cod n) (sat.inner n e) (inner n e)
      go false e = tt
  inner_tests (Constant w) = tt

  predicate_tests : (c : Source) → Brings cod all packet c → WhereSome (predicate_at cod (table cod d 208) c) (Tests (value all c))
  predicate_tests c b = go (is_leaf cod c) refl
    where
      go : (q : Bool) → is_leaf cod c ≡ q → WhereSome (cond q (Some (True (leaf_of cod c))) (comparison_in cod (table cod d 208) (inner_line cod c))) (Tests (value all c))
      go true e = ap truth (leaf_of_lem c e b)
      go false e = inner_tests c

  on_picks : (v : ℕ) (c a b : Source) (o : Option Predicate) → v ≡ chosen (value all c) (value all a) (value all b) → Brings cod all packet a → Brings cod all packet b → WhereSome o (Tests (value all c)) → WhereSome (fork_on c a b o) (Picks v)
  on_picks v c a b None e x y h = tt
  on_picks v c a b (Some p) e x y h = record { picks = e; tests = h; first = x; second = y }

  line_picks : (v : ℕ) (l : Line) → v ≡ makes plus minus all old l → Each (Brings cod all packet) (sources_of l) → WhereSome (fork_in cod (table cod d 208) (Some l)) (Picks v)
  line_picks v (Read s) e b = tt
  line_picks v (Copy a) e b = tt
  line_picks v (Add x y) e b = tt
  line_picks v (Sub x y) e b = tt
  line_picks v (Less x y) e b = tt
  line_picks v (Equal x y) e b = tt
  line_picks v (Choose c x y) e b =
      on_picks v (resolved_to cod d c) x y (predicate_at cod (table cod d 208) (resolved_to cod d c)) (e ∙ sym (rw (keeps c) refl)) b.1.0 b.1.1.0 (predicate_tests (resolved_to cod d c) (brings c b.0))
  line_picks v (Write s a) e b = tt

  inner_picks : (r : Source) → WhereSome (fork_in cod (table cod d 208) (inner_line cod r)) (Picks (value all r))
  inner_picks (Field i) = tt
  inner_picks (Made n) = go (is_inner cod n) refl
    where
      go : (b : Bool) → is_inner cod n ≡ b → WhereSome (fork_in cod (table cod d 208) (cond b (Some (line_at cod n)) None)) (Picks (value all (Made n)))
      go true e = line_picks (value all (Made n)) (line_at cod n) (sat.inner n e) (inner n e)
      go false e = tt
  inner_picks (Constant w) = tt

  fork_picks : (u : Source) (f : Fork) → fork_of cod d u ≡ Some f → Picks (value all u) f
  fork_picks u f e = subst (λ v. Picks v f) (keeps u) (at_some (fork_of cod d u) f (Picks (value all (resolved_to cod d u))) e (inner_picks (resolved_to cod d u)))

-- RIGHT SETTINGS
module _ (plus minus : ℕ → ℕ → ℕ) (n : ℕ) (ran : List ℕ → ℕ → Packet → ℕ) (cod : Codelet) (d : Decided) (u : Source) where
  -- what the atom below does is the first part, on a predicate that is always true
  below_right : (s ys : List ℕ) → predicate_from s ≡ Always → take n (drop 5 s) ≡ ys → Right plus minus ran cod d u ys → Right plus minus (choice_ran n ran) cod d u s
  unfolding Right
  below_right s ys p e below = λ old all packet word words sat holds carries.
      ap (λ q. cond (holds_at q old packet) (ran (take n (drop 5 s)) old packet) (ran (take n (drop (5 + n) s)) old packet)) p
      ∙ ap (λ (part : List ℕ). ran part old packet) e
      ∙ below old all packet word words sat holds carries

  -- a fork is its predicate and the settings of its arms
  fork_right : (s ys zs : List ℕ) (f : Fork) → fork_of cod d u ≡ Some f → predicate_from s ≡ f.predicate → take n (drop 5 s) ≡ ys → take n (drop (5 + n) s) ≡ zs → Right plus minus ran cod (decide d f.condition true) f.first ys → Right plus minus ran cod (decide d f.condition false) f.second zs → Right plus minus (choice_ran n ran) cod d u s
  unfolding Right
  fork_right s ys zs f is p e₁ e₂ first second = λ old all packet word words sat holds carries.
      let good = fork_picks plus minus cod d old all packet sat holds carries.inner u f is in
      let x = value all f.condition in
      let go : (b : Bool) → truth x ≡ b → cond b (ran (take n (drop 5 s)) old packet) (ran (take n (drop (5 + n) s)) old packet) ≡ cond b (value all f.first) (value all f.second) =
      elim [
        | true ↦ λ h. ap (λ (part : List ℕ). ran part old packet) e₁ ∙ first old all packet word words sat (decide_holds all d f.condition true h holds) (record { written = good.first; inner = carries.inner })
        | false ↦ λ h. ap (λ (part : List ℕ). ran part old packet) e₂ ∙ second old all packet word words sat (decide_holds all d f.condition false h holds) (record { written = good.second; inner = carries.inner })
      ] in
      ap (λ q. cond (holds_at q old packet) (ran (take n (drop 5 s)) old packet) (ran (take n (drop (5 + n) s)) old packet)) p
      ∙ ap (λ b. cond b (ran (take n (drop 5 s)) old packet) (ran (take n (drop (5 + n) s)) old packet)) good.tests
      ∙ go (truth x) refl
      ∙ sym good.picks

  pub below_fitted : (xs ys : List ℕ) → 5 + 2 * n ≤ length xs → length ys ≡ n → predicate_from xs ≡ Always → Right plus minus ran cod d u ys → Right plus minus (choice_ran n ran) cod d u (put_mid 5 ((5 + n) - 5) xs ys)
  below_fitted xs ys room whole p right =
      below_right (put_mid 5 ((5 + n) - 5) xs ys) ys (same_predicate (put_mid 5 ((5 + n) - 5) xs ys) xs (first_head xs ys n room whole) ∙ p) (first_part xs ys n room whole) right

  pub fork_fitted : (f : Fork) (xs ys zs : List ℕ) → fork_of cod d u ≡ Some f → 5 + 2 * n ≤ length xs → length ys ≡ n → length zs ≡ n → predicate_from xs ≡ f.predicate → Right plus minus ran cod (decide d f.condition true) f.first ys → Right plus minus ran cod (decide d f.condition false) f.second zs → Right plus minus (choice_ran n ran) cod d u (put_mid (5 + n) ((5 + 2 * n) - (5 + n)) (put_mid 5 ((5 + n) - 5) xs ys) zs)
  fork_fitted f xs ys zs is room l₁ l₂ p first second =
      let one = put_mid 5 ((5 + n) - 5) xs ys in
      let two = put_mid (5 + n) ((5 + 2 * n) - (5 + n)) one zs in
      let room₁ : 5 + 2 * n ≤ length one = omega (arith, first_length xs ys n room l₁) in
      fork_right two ys zs f is
      (same_predicate two xs (λ i h. second_head one zs n room₁ l₂ i h ∙ first_head xs ys n room l₁ i h) ∙ p)
      (second_keeps one zs n room₁ l₂ ∙ first_part xs ys n room l₁)
      (second_part one zs n room₁ l₂)
      first second
