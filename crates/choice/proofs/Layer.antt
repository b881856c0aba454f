-- What the layer writes, as the atom below writes its parts. Assumes nothing.
use Rattle.std.proofs.Common.{◌≡◌, ℕ, ◌+◌, ◌-◌, ◌*◌, ◌<◌, ◌≤◌, Bool, true, false, List, length, take, drop, Some, sym, ap, ◌∙◌, arith}
use Rattle.std.specs.Prelude.{is_some}
use borrow.Rule.Slice.PartMut.{put_mid}
use Rattle.std.proofs.lemmas.Bool.{both_ways, or_left, and_from, and_parts, ltb-true, leb-true, lt-ltb, le-leb}
use Rattle.word.specs.Words.{top}
use Rattle.lines.specs.declared.line.Source.{Source}
use Rattle.resolving.specs.declared.codelet.Codelet.{Codelet}
use Rattle.resolving.specs.declared.decided.Decided.{Decided}
use Rattle.resolving.specs.declared.fork.Fork.{Fork}
use Rattle.resolving.specs.declared.leaf.Predicate.TheVariants.{Always}
use Rattle.resolving.specs.declared.packet.Packet.{Packet}
use Rattle.resolving.specs.Sameness.{decide}
use Rattle.choice.specs.Choice.{choice_length, choice_takes, choice_ran, taken_fork}
use Rattle.atoms.specs.Rightness.{Right}
use Rattle.settings.specs.Settings.{predicate_from, has_room}
use Rattle.choice.proofs.Arms.{taken_is, choice_takes_lem}
use Rattle.choice.proofs.Forks.{below_fitted, fork_fitted}
use Rattle.choice.proofs.Parts.{part_length, first_length, first_rest, second_rest, later}

-- room for the layer is room for its head and two settings of the atom below
record Room (n : ℕ) (buffer : List ℕ) : Type 0 where
  below : n < top
  whole : choice_length n ≡ 5 + 2 * n
  fits : 5 + 2 * n ≤ length buffer

room_of : (n : ℕ) (buffer : List ℕ) → has_room (choice_length n) buffer ≡ true → Room n buffer
room_of n buffer h =
    let p = and_parts _ _ h in
    let l : choice_length n < top = ltb-true _ _ p.0 in
    let m : choice_length n ≤ length buffer = leb-true _ _ p.1 in
    record { below = omega arith; whole = omega arith; fits = omega arith }

has_room_lem : (n : ℕ) (s : List ℕ) → n < top → length s ≡ n → has_room n s ≡ true
has_room_lem n s h e = and_from _ _ (lt-ltb n top h) (le-leb n (length s) (omega arith))

module _ (plus minus : ℕ → ℕ → ℕ) (n : ℕ) (takes : Codelet → Decided → Source → Bool) (ran : List ℕ → ℕ → Packet → ℕ) (cod : Codelet) (d : Decided) (u : Source) (buffer : List ℕ) (has : has_room (choice_length n) buffer ≡ true) where
  -- what a yes of the layer has to show of what it wrote
  pub record Fitted (out : List ℕ) : Type 0 where
    pub answer : true ≡ choice_takes takes cod d u
    pub right : Right plus minus (choice_ran n ran) cod d u out
    pub short : has_room (choice_length n) buffer ≡ false → out ≡ buffer
    pub rest : drop (choice_length n) out ≡ drop (choice_length n) buffer

  room : Room n buffer
  room = room_of n buffer has

  -- there is room for the head
  pub head_fits : 5 ≤ length buffer
  head_fits = omega (arith, room.fits)

  -- the buffer with its head written
  module _ (xs : List ℕ) (long : length xs ≡ length buffer) (kept : drop 5 xs ≡ drop 5 buffer) where
    roomy : 5 + 2 * n ≤ length xs
    roomy = omega (arith, room.fits)

    part_room : (i : ℕ) (s : List ℕ) → i + n ≤ length s → (k : ℕ) → k ≡ n → has_room n (take k (drop i s)) ≡ true
    part_room i s h k e = has_room_lem n (take k (drop i s)) room.below (part_length s i n k e h)

    head_rest : drop (choice_length n) xs ≡ drop (choice_length n) buffer
    head_rest = later xs buffer (choice_length n) (omega (arith, room.whole)) kept

    pub below_wrote : (ys : List ℕ) → length ys ≡ length (take ((5 + n) - 5) (drop 5 xs)) → predicate_from xs ≡ Always → takes cod d u ≡ true → (has_room n (take ((5 + n) - 5) (drop 5 xs)) ≡ true → Right plus minus ran cod d u ys) → Fitted (put_mid 5 ((5 + n) - 5) xs ys)
    below_wrote ys l p taken right =
        let whole : length ys ≡ n = l ∙ part_length xs 5 n ((5 + n) - 5) (omega arith) (omega (arith, roomy)) in
        record {
          answer = sym (or_left _ _ taken);
          right = below_fitted plus minus n ran cod d u xs ys roomy whole p (right (part_room 5 xs (omega (arith, roomy)) ((5 + n) - 5) (omega arith)));
          short = λ e. absurd (both_ways _ e has);
          rest = first_rest xs ys n roomy whole (choice_length n) (omega (arith, room.whole)) ∙ head_rest;
        }

    pub fork_wrote : (f : Fork) (ys zs : List ℕ) → takes cod d u ≡ false → taken_fork takes cod d u ≡ Some f → predicate_from xs ≡ f.predicate
        → length ys ≡ length (take ((5 + n) - 5) (drop 5 xs))
        → length zs ≡ length (take ((5 + 2 * n) - (5 + n)) (drop (5 + n) (put_mid 5 ((5 + n) - 5) xs ys)))
        → (has_room n (take ((5 + n) - 5) (drop 5 xs)) ≡ true → Right plus minus ran cod (decide d f.condition true) f.first ys)
        → (has_room n (take ((5 + 2 * n) - (5 + n)) (drop (5 + n) (put_mid 5 ((5 + n) - 5) xs ys))) ≡ true → Right plus minus ran cod (decide d f.condition false) f.second zs)
        → Fitted (put_mid (5 + n) ((5 + 2 * n) - (5 + n)) (put_mid 5 ((5 + n) - 5) xs ys) zs)
    fork_wrote f ys zs refused kept p l₁ l₂ first second =
        let one = put_mid 5 ((5 + n) - 5) xs ys in
        let w₁ : length ys ≡ n = l₁ ∙ part_length xs 5 n ((5 + n) - 5) (omega arith) (omega (arith, roomy)) in
        let roomy₁ : 5 + 2 * n ≤ length one = omega (arith, first_length xs ys n roomy w₁, roomy) in
        let w₂ : length zs ≡ n = l₂ ∙ part_length one (5 + n) n ((5 + 2 * n) - (5 + n)) (omega arith) (omega arith) in
        record {
          answer = sym (ap is_some kept) ∙ choice_takes_lem cod d takes u refused;
          right = fork_fitted plus minus n ran cod d u f xs ys zs (taken_is cod d takes u f kept).0 roomy w₁ w₂ p
              (first (part_room 5 xs (omega (arith, roomy)) ((5 + n) - 5) (omega arith)))
              (second (part_room (5 + n) one (omega arith) ((5 + 2 * n) - (5 + n)) (omega arith)));
          short = λ e. absurd (both_ways _ e has);
          rest = second_rest one zs n roomy₁ w₂ (choice_length n) (omega (arith, room.whole)) ∙ first_rest xs ys n roomy w₁ (choice_length n) (omega (arith, room.whole)) ∙ head_rest;
        }
