-- A setting written in parts, and read back. Assumes nothing.
use Rattle.std.proofs.Common.{◌≡◌, ℕ, ◌+◌, ◌-◌, ◌*◌, ◌<◌, ◌≤◌, List, length, get_or, take, drop, sym, refl, ap, ◌∙◌, arith, rules}
use borrow.Rule.Slice.PartMut.{put_mid}
use Rattle.std.proofs.lemmas.List.{places, length-drop, length-take-le, drop-drop}
use Rattle.std.proofs.lemmas.Slice.{between_is, between-put_mid, take-put_mid_below, drop-put_mid}
use Rattle.settings.specs.Settings.{predicate_from}

-- a part of n numbers at i
pub part_length : (xs : List ℕ) (i n k : ℕ) → k ≡ n → i + n ≤ length xs → length (take k (drop i xs)) ≡ n
part_length xs i n k e h = length-take-le k (drop i xs) (omega (arith, length-drop i xs)) ∙ e

-- what the first part leaves and holds
module _ (xs ys : List ℕ) (n : ℕ) (room : 5 + 2 * n ≤ length xs) (whole : length ys ≡ n) where
  pub first_length : length (put_mid 5 ((5 + n) - 5) xs ys) ≡ length xs
  first_length = search (rules, places)

  pub first_head : (i : ℕ) → i < 5 → get_or (put_mid 5 ((5 + n) - 5) xs ys) i 0 ≡ get_or xs i 0
  first_head i h = search (rules, places)

  pub first_part : take n (drop 5 (put_mid 5 ((5 + n) - 5) xs ys)) ≡ ys
  first_part =
      let e : n ≡ (5 + n) - 5 = omega arith in
      ap (λ k. take k (drop 5 (put_mid 5 ((5 + n) - 5) xs ys))) e ∙ between-put_mid 5 ((5 + n) - 5) xs ys (5 + n) (omega arith) (omega arith)

  pub first_rest : (m : ℕ) → 5 + n ≤ m → drop m (put_mid 5 ((5 + n) - 5) xs ys) ≡ drop m xs
  first_rest m h = drop-put_mid 5 ((5 + n) - 5) xs ys m (omega arith) (omega arith) (omega arith)

-- what the second part leaves and holds
module _ (xs zs : List ℕ) (n : ℕ) (room : 5 + 2 * n ≤ length xs) (whole : length zs ≡ n) where
  pub second_head : (i : ℕ) → i < 5 → get_or (put_mid (5 + n) ((5 + 2 * n) - (5 + n)) xs zs) i 0 ≡ get_or xs i 0
  second_head i h = search (rules, places)

  pub second_keeps : take n (drop 5 (put_mid (5 + n) ((5 + 2 * n) - (5 + n)) xs zs)) ≡ take n (drop 5 xs)
  second_keeps =
      let s = put_mid (5 + n) ((5 + 2 * n) - (5 + n)) xs zs in
      let e : n ≡ (5 + n) - 5 = omega arith in
      ap (λ k. take k (drop 5 s)) e
      ∙ between_is s 5 (5 + n)
      ∙ ap (drop 5) (take-put_mid_below (5 + n) ((5 + 2 * n) - (5 + n)) xs zs (5 + n) (omega arith) (omega arith))
      ∙ sym (between_is xs 5 (5 + n))
      ∙ ap (λ k. take k (drop 5 xs)) (sym e)

  pub second_part : take n (drop (5 + n) (put_mid (5 + n) ((5 + 2 * n) - (5 + n)) xs zs)) ≡ zs
  second_part =
      let e : n ≡ (5 + 2 * n) - (5 + n) = omega arith in
      ap (λ k. take k (drop (5 + n) (put_mid (5 + n) ((5 + 2 * n) - (5 + n)) xs zs))) e
      ∙ between-put_mid (5 + n) ((5 + 2 * n) - (5 + n)) xs zs (5 + 2 * n) (omega arith) (omega arith)

  pub second_rest : (m : ℕ) → 5 + 2 * n ≤ m → drop m (put_mid (5 + n) ((5 + 2 * n) - (5 + n)) xs zs) ≡ drop m xs
  second_rest m h = drop-put_mid (5 + n) ((5 + 2 * n) - (5 + n)) xs zs m (omega arith) (omega arith) (omega arith)

-- lists with the same first five numbers say one predicate
pub same_predicate : (s xs : List ℕ) → ((i : ℕ) → i < 5 → get_or s i 0 ≡ get_or xs i 0) → predicate_from s ≡ predicate_from xs
same_predicate s xs e = rw (e 0 (omega arith), e 1 (omega arith), e 2 (omega arith), e 3 (omega arith), e 4 (omega arith)) refl

-- lists that are alike from the sixth number on are alike from any later one
pub later : (xs ys : List ℕ) (m : ℕ) → 5 ≤ m → drop 5 xs ≡ drop 5 ys → drop m xs ≡ drop m ys
later xs ys m h e =
    let q : 5 + (m - 5) ≡ m = omega arith in
    sym (ap (λ k. drop k xs) q) ∙ sym (drop-drop (m - 5) 5 xs) ∙ ap (drop (m - 5)) e ∙ drop-drop (m - 5) 5 ys ∙ ap (λ k. drop k ys) q
