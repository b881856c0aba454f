-- The column of a malformed line is that of its first fault. Assumes nothing.
use Rattle.std.proofs.Common.{◌≡◌, ℕ, suc, ◌+◌, ◌<◌, ◌≤◌, List, [], ◌∷◌, ◌++◌, length, take, None, Option, sym, refl, ◌∙◌, subst, add-one, arith}
use Rattle.text.specs.declared.step.Step.{Step}
use Rattle.text.specs.declared.step.Step.TheVariants.{Onward, Whole, Stuck}
use Rattle.text.specs.Decoding.{Decoded, decoded, malformed, read_from, decoding}
use Rattle.text.specs.Theorem.{FirstFault}
use Rattle.text.proofs.Readings.{read_onward, read_whole, read_stuck}

-- what bytes give, a line's end behind them
abbrev ended : (Option ℕ → ℕ → Step ℕ) → Option ℕ → ℕ → List ℕ → List ℕ → Decoded ℕ
ended step begun column items bs = read_from step begun column items (bs ++ 32 ∷ [])

-- whatever is begun, some bytes complete the line
abbrev pub Finishes : (Option ℕ → ℕ → Step ℕ) → Type 0
Finishes step = (begun : Option ℕ) (column : ℕ) (items : List ℕ) → (rest : List ℕ) × ((found : List ℕ) × (ended step begun column items rest ≡ decoded found))

-- the fault lies `passed` bytes on
abbrev Fault : (Option ℕ → ℕ → Step ℕ) → Option ℕ → ℕ → List ℕ → List ℕ → ℕ → Type 0
Fault step begun column items bs passed =
    (passed ≤ length bs)
    × ((rest : List ℕ) × ((found : List ℕ) × (ended step begun column items (take passed bs ++ rest) ≡ decoded found)))
    × ((rest found : List ℕ) → passed < length bs → ended step begun column items (take (suc passed) bs ++ rest) ≡ decoded found → ⊥)

module _ (step : Option ℕ → ℕ → Step ℕ) (finishes : Finishes step) where
  apart : (n : ℕ) (items : List ℕ) → decoded items ≡ malformed n → ⊥
  apart n items e = let z : ◌≡◌ {A = ℕ} 0 1 = cc in omega arith

  told : (column n : ℕ) → ◌≡◌ {A = Decoded ℕ} (malformed column) (malformed n) → n ≡ column + 0
  told column n e = let same : column ≡ n = cc in omega arith

  -- a line that is stuck at its first byte, or at its end
  here : (begun : Option ℕ) (column : ℕ) (items bs : List ℕ) → ((rest : List ℕ) → 0 < length bs → ended step begun column items (take 1 bs ++ rest) ≡ malformed column) → Fault step begun column items bs 0
  here begun column items bs stuck = (omega arith, finishes begun column items, λ rest found some e. apart column found (sym e ∙ stuck rest some))

  -- a line whose first byte leads on to what is left of it
  later :
      (begun next : Option ℕ) (column : ℕ) (items more : List ℕ) (b : ℕ) (bs : List ℕ)
      → ((xs : List ℕ) → ended step begun column items (b ∷ xs) ≡ ended step next (column + 1) more xs)
      → (n passed : ℕ)
      → n ≡ (column + 1) + passed
      → Fault step next (column + 1) more bs passed
      → (n ≡ column + suc passed) × Fault step begun column items (b ∷ bs) (suc passed)
  later begun next column items more b bs leads n passed told fault =
      (omega arith, (omega (arith, fault.0), (fault.1.0, (fault.1.1.0, leads _ ∙ fault.1.1.1)), λ rest found some e. fault.2 rest found (omega arith) (sym (leads _) ∙ e)))

  first : (begun : Option ℕ) (column : ℕ) (items bs : List ℕ) (n : ℕ) → ended step begun column items bs ≡ malformed n → (passed : ℕ) × ((n ≡ column + passed) × Fault step begun column items bs passed)
  first begun column items [] n e = at_end (step begun 32) refl
    where
      at_end : (s : Step ℕ) → s ≡ step begun 32 → (passed : ℕ) × ((n ≡ column + passed) × Fault step begun column items [] passed)
      at_end (Onward next) p = absurd (apart n items (sym (read_onward step begun column items 32 [] next p) ∙ e))
      at_end (Whole item) p = absurd (apart n (items ++ item ∷ []) (sym (read_whole step begun column items 32 [] item p) ∙ e))
      at_end Stuck p = (0, (told column n (sym (read_stuck step begun column items 32 [] p) ∙ e), here begun column items [] (λ rest some. absurd (omega arith))))
  first begun column items (b ∷ bs) n e = at_byte (λ next more h. first next (column + 1) more bs n h) (step begun b) refl
    where
      at_byte :
          ((next : Option ℕ) (more : List ℕ) → ended step next (column + 1) more bs ≡ malformed n → (passed : ℕ) × ((n ≡ (column + 1) + passed) × Fault step next (column + 1) more bs passed))
          → (s : Step ℕ)
          → s ≡ step begun b
          → (passed : ℕ) × ((n ≡ column + passed) × Fault step begun column items (b ∷ bs) passed)
      at_byte again (Onward next) p =
          let leads : (xs : List ℕ) → ended step begun column items (b ∷ xs) ≡ ended step next (column + 1) items xs = λ xs. read_onward step begun column items b (xs ++ 32 ∷ []) next p in
          let found = again next items (sym (leads bs) ∙ e) in
          (suc found.0, later begun next column items items b bs leads n found.0 found.1.0 found.1.1)
      at_byte again (Whole item) p =
          let leads : (xs : List ℕ) → ended step begun column items (b ∷ xs) ≡ ended step None (column + 1) (items ++ item ∷ []) xs = λ xs. read_whole step begun column items b (xs ++ 32 ∷ []) item p in
          let found = again None (items ++ item ∷ []) (sym (leads bs) ∙ e) in
          (suc found.0, later begun None column items (items ++ item ∷ []) b bs leads n found.0 found.1.0 found.1.1)
      at_byte again Stuck p =
          (0, (told column n (sym (read_stuck step begun column items b (bs ++ 32 ∷ []) p) ∙ e), here begun column items (b ∷ bs) (λ rest some. read_stuck step begun column items b (rest ++ 32 ∷ []) p)))

  pub first_fault : FirstFault (decoding step)
  first_fault line column e =
      let found = first None 0 [] line column e in
      let same : found.0 ≡ column = omega (arith, found.1.0) in
      let fault = subst (λ k. Fault step None 0 [] line k) same found.1.1 in
      (fault.0, fault.1, λ some begins. fault.2 begins.0 begins.1.0 some (rw add-one at begins.1.1))
