-- A number is read exactly where its shortest form stands. Assumes nothing.
use Rattle.std.proofs.Common.{◌≡◌, ℕ, zero, suc, ◌+◌, ◌-◌, ◌*◌, ◌/◌, ◌%◌, ◌^◌, ◌<◌, ◌≤◌, false, ◌&&◌, ◌||◌, eqb, ltb, List, [], ◌∷◌, ◌++◌, length, drop, sym, refl, ap, ◌∙◌, subst, ⊎_elim, mul_assoc, add-mul, pow-suc, arith, pow-add}
use native.Mathlib.Nat.{div-add-mod}
use Rattle.std.proofs.lemmas.Bool.{lt-ltb, le-ltb, ltb-true, ltb-false, and_parts, and_from, or_parts, cond-true, cond-false, cases_lt}
use Rattle.std.proofs.lemmas.Bool.Decides.{nat_tests}
use Rattle.image.specs.Reading.{got, groups, ending, number_at}
use Rattle.image.specs.Writing.{written_in, number}
use Rattle.image.proofs.GoodReads.{unless, only_where}
use Rattle.image.proofs.Spans.{Spans, spans_front}

parts : (q r w : ℕ) → r * w + q * (w * 128) ≡ (128 * q + r) * w
parts q r w = omega (arith, add-mul (128 * q) r w, mul_assoc 128 q w, mul_assoc q w 128)

weight : (k : ℕ) → 2 ^ (7 * (k + 1)) ≡ 2 ^ (7 * k) * 128
weight k = let e : 7 * (k + 1) ≡ 7 * k + 7 = omega arith in ap (λ i. 2 ^ i) e ∙ pow-add 2 (7 * k) 7

-- a group and what is above it, at their weights
weighed : (v q r k : ℕ) → v + r * 2 ^ (7 * k) + q * 2 ^ (7 * (k + 1)) ≡ v + (128 * q + r) * 2 ^ (7 * k)
weighed v q r k = rw (weight k) (omega (arith, parts q r (2 ^ (7 * k))))

-- v and the rest of m, by its lowest group
split : (v m k : ℕ) → v + (128 + m % 128 - 128) * 2 ^ (7 * k) + m / 128 * 2 ^ (7 * (k + 1)) ≡ v + m * 2 ^ (7 * k)
split v m k =
    let low : 128 + m % 128 - 128 ≡ m % 128 = omega arith in
    rw low (weighed v (m / 128) (m % 128) k ∙ ap (λ x. v + x * 2 ^ (7 * k)) (div-add-mod m 128))

fine : (start b k v at : ℕ) → (0 < k → 0 < b) → v < 4294967296 → ending start (eqb b 0 && ltb 0 k) v at ≡ got v at
fine start b k v at h i = grind (arith, nat_tests)

module _ (start : ℕ) (rest : List ℕ) (j k v m : ℕ) (few : k < 5) where
  abbrev Goal : Type 0
  Goal = groups start k v (written_in (suc j) m ++ rest) ≡ got (v + m * 2 ^ (7 * k)) (start + k + length (written_in (suc j) m))

  last_one : m < 128 → (0 < k → 0 < m) → v + m * 2 ^ (7 * k) < 4294967296 → Goal
  last_one h some fit = rw (lt-ltb m 128 h) (cond-true _ _ _ (and_from _ _ (lt-ltb k 5 few) (lt-ltb m 256 (omega arith))) ∙ cond-true _ _ _ (lt-ltb m 128 h) ∙ fine start m k _ _ some fit)

  abbrev v' : ℕ
  v' = v + (128 + m % 128 - 128) * 2 ^ (7 * k)

  more : 128 ≤ m → groups start (k + 1) v' (written_in j (m / 128) ++ rest) ≡ got (v' + m / 128 * 2 ^ (7 * (k + 1))) (start + (k + 1) + length (written_in j (m / 128))) → Goal
  more h t =
      let high : 128 ≤ 128 + m % 128 = omega arith in
      let byte : 128 + m % 128 < 256 = omega arith in
      let end : start + (k + 1) + length (written_in j (m / 128)) ≡ start + k + suc (length (written_in j (m / 128))) = omega arith in
      rw (le-ltb m 128 h) (cond-true _ _ _ (and_from _ _ (lt-ltb k 5 few) (lt-ltb (128 + m % 128) 256 byte)) ∙ cond-false _ _ _ (le-ltb (128 + m % 128) 128 high) ∙ t ∙ (λ i. got (split v m k i) (end i)))

reads : (start : ℕ) (rest : List ℕ) (j k v m : ℕ) → j + k ≡ 5 → (0 < k → 0 < m) → m < 128 ^ j → v + m * 2 ^ (7 * k) < 4294967296 → groups start k v (written_in j m ++ rest) ≡ got (v + m * 2 ^ (7 * k)) (start + k + length (written_in j m))
reads start rest zero k v m e some less fit = absurd (omega (arith, some (omega arith)))
reads start rest (suc j) k v m e some less fit =
    let few : k < 5 = omega arith in
    ⊎_elim (λ h. last_one start rest j k v m few h some fit)
    (λ h. more start rest j k v m few h (reads start rest j (k + 1) (v + (128 + m % 128 - 128) * 2 ^ (7 * k)) (m / 128) (omega arith) (λ _. omega arith) (omega (arith, pow-suc 128 j)) (omega (arith, split v m k))))
    (cases_lt m 128)

-- where the shortest form of a word stands, the word is read
pub number_from : (bs : List ℕ) {at n end : ℕ} → Spans bs at (number n) end → n ≤ 4294967295 → number_at bs at ≡ got n end
number_from bs {at} {n} {end} p h =
    let t = reads at (drop end bs) 5 0 0 n refl (λ e. absurd (omega arith)) (omega arith) (omega arith) in
    let value : 0 + n * 1 ≡ n = omega arith in
    let after : at + 0 + length (number n) ≡ end = omega (arith, p.long) in
    ap (groups at 0 0) p.stand ∙ t ∙ (λ i. got (value i) (after i))

-- what the groups from the k-th on say: m, whose form in at most j groups stands at the front of l
record Ends (start k v j : ℕ) (l : List ℕ) (n end : ℕ) : Type 0 where
  m : ℕ
  rest : List ℕ
  value : n ≡ v + m * 2 ^ (7 * k)
  some : 0 < k → 0 < m
  fits : n ≤ 4294967295
  front : l ≡ written_in j m ++ rest
  after : end ≡ start + k + length (written_in j m)

-- a number that has ended
ended : (start b k v at : ℕ) {n end : ℕ} → ending start (eqb b 0 && ltb 0 k) v at ≡ got n end → (0 < k → 0 < b) × (v ≤ 4294967295) × (v ≡ n) × (at ≡ end)
ended start b k v at e =
    let u = unless ((eqb b 0 && ltb 0 k) || ltb 4294967295 v) _ _ e in
    let q = or_parts (eqb b 0 && ltb 0 k) (ltb 4294967295 v) u.0 in
    (some q.0, ltb-false 4294967295 v q.1, (cc), (cc))
  where
    some : (eqb b 0 && ltb 0 k) ≡ false → 0 < k → 0 < b
    some p q = grind (arith, nat_tests)

module _ (start j k v b : ℕ) (l : List ℕ) (n end : ℕ) where
  last_group : b < 128 → ending start (eqb b 0 && ltb 0 k) (v + b * 2 ^ (7 * k)) (start + k + 1) ≡ got n end → Ends start k v (suc j) (b ∷ l) n end
  last_group h e =
      let q = ended start b k (v + b * 2 ^ (7 * k)) (start + k + 1) e in
      let w : written_in (suc j) b ≡ b ∷ [] = cond-true _ _ _ (lt-ltb b 128 h) in
      record {
        m = b;
        rest = l;
        value = sym q.2;
        some = q.0;
        fits = omega (arith, q.1, q.2);
        front = ap (λ (r : List ℕ). r ++ l) (sym w);
        after = sym q.3 ∙ ap (λ (r : List ℕ). start + k + length r) (sym w);
      }

  more_groups : 128 ≤ b → b < 256 → Ends start (k + 1) (v + (b - 128) * 2 ^ (7 * k)) j l n end → Ends start k v (suc j) (b ∷ l) n end
  more_groups h byte r =
      let m : ℕ = 128 * r.m + (b - 128) in
      let some : 0 < r.m = r.some (omega arith) in
      let high : m / 128 ≡ r.m = omega arith in
      let low : 128 + m % 128 ≡ b = omega arith in
      let w : written_in (suc j) m ≡ b ∷ written_in j r.m = cond-false _ _ _ (le-ltb m 128 (omega arith)) ∙ (λ i. low i ∷ written_in j (high i)) in
      record {
        m = m;
        rest = r.rest;
        value = r.value ∙ weighed v r.m (b - 128) k;
        some = λ _. omega arith;
        fits = r.fits;
        front = ap (λ (x : List ℕ). b ∷ x) r.front ∙ ap (λ (x : List ℕ). x ++ r.rest) (sym w);
        after = omega (arith, r.after, ap length w);
      }

ends : (start j k v : ℕ) (l : List ℕ) (n end : ℕ) → j + k ≡ 5 → groups start k v l ≡ got n end → Ends start k v j l n end
ends start j k v [] n end e r = cc
ends start zero k v (b ∷ l) n end e r = grind (arith, nat_tests)
ends start (suc j) k v (b ∷ l) n end e r =
    let q = only_where (ltb k 5 && ltb b 256) _ _ r in
    let byte : b < 256 = ltb-true b 256 (and_parts (ltb k 5) (ltb b 256) q.0).1 in
    ⊎_elim
    (λ h. last_group start j k v b l n end h (sym (cond-true _ _ _ (lt-ltb b 128 h)) ∙ q.1))
    (λ h. more_groups start j k v b l n end h byte (ends start j (k + 1) (v + (b - 128) * 2 ^ (7 * k)) l n end (omega arith) (sym (cond-false _ _ _ (le-ltb b 128 h)) ∙ q.1)))
    (cases_lt b 128)

-- a number that is read is a word, and its shortest form stands there
pub number_to : (bs : List ℕ) {at n end : ℕ} → number_at bs at ≡ got n end → Spans bs at (number n) end × (n ≤ 4294967295)
number_to bs {at} {n} {end} e =
    let r = ends at 5 0 0 (drop at bs) n end refl e in
    let same : r.m ≡ n = omega (arith, r.value) in
    let after : at + length (number r.m) ≡ end = omega (arith, r.after) in
    (subst (λ (x : ℕ). Spans bs at (number x) end) same (subst (λ (x : ℕ). Spans bs at (number r.m) x) after (spans_front bs (number r.m) r.rest at r.front)), r.fits)
