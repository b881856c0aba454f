-- What bytes give at any column, from the last byte to the first. Assumes nothing.
use Rattle.std.proofs.Common.{◌≡◌, ℕ, ◌+◌, ◌<◌, true, List, [], ◌∷◌, ◌++◌, Some, None, Option, sym, refl, ap, ◌∙◌}
use Rattle.std.proofs.lemmas.Bool.{and_parts, cond-true, lt-ltb}
use Rattle.std.specs.Char.{digit_value}
use Rattle.text.specs.declared.step.Step.{Step}
use Rattle.text.specs.declared.step.Step.TheVariants.{Onward, Whole}
use Rattle.text.specs.Bytes.{blank, digit_of}
use Rattle.text.specs.Decoding.{Decoded, decoded, read_from}
use Rattle.text.specs.Theorem.{blanks}
use Rattle.text.proofs.Readings.{read_onward, read_whole}

-- what bytes give, at any column
pub record Gives (step : Option ℕ → ℕ → Step ℕ) (begun : Option ℕ) (items bs : List ℕ) (d : Decoded ℕ) : Type 0 where
  pub at : (column : ℕ) → read_from step begun column items bs ≡ d

module _ {step : Option ℕ → ℕ → Step ℕ} where
  pub onward : {begun : Option ℕ} {items bs : List ℕ} {d : Decoded ℕ} (b : ℕ) (next : Option ℕ) → step begun b ≡ Onward next → Gives step next items bs d → Gives step begun items (b ∷ bs) d
  onward {begun} {items} {bs} b next e h = record { at = λ column. read_onward step begun column items b bs next (sym e) ∙ h.at (column + 1) }

  pub whole : {begun : Option ℕ} {items bs : List ℕ} {d : Decoded ℕ} (b item : ℕ) → step begun b ≡ Whole item → Gives step None (items ++ item ∷ []) bs d → Gives step begun items (b ∷ bs) d
  whole {begun} {items} {bs} b item e h = record { at = λ column. read_whole step begun column items b bs item (sym e) ∙ h.at (column + 1) }

  pub nothing_left : {begun : Option ℕ} {items : List ℕ} → Gives step begun items [] (decoded items)
  nothing_left = record { at = λ _. refl }

  -- the same bytes and the same answer in other words
  pub regrouped : {begun : Option ℕ} {items bs cs : List ℕ} {d e : Decoded ℕ} → bs ≡ cs → d ≡ e → Gives step begun items bs d → Gives step begun items cs e
  regrouped {begun} {items} p q h = record { at = λ column. ap (read_from step begun column items) (sym p) ∙ h.at column ∙ q }

  -- blanks where nothing is begun
  module _ (skips : (b : ℕ) → blank b ≡ true → step None b ≡ Onward None) where
    pub past_blanks : {items bs : List ℕ} {d : Decoded ℕ} (gap : List ℕ) → blanks gap ≡ true → Gives step None items bs d → Gives step None items (gap ++ bs) d
    past_blanks [] e h = h
    past_blanks (b ∷ gap) e h = let p = and_parts (blank b) (blanks gap) e in onward b None (skips b p.0) (past_blanks gap p.1 h)

    pub to_end : {items : List ℕ} (behind : List ℕ) → blanks behind ≡ true → Gives step None items (behind ++ 32 ∷ []) (decoded items)
    to_end behind e = past_blanks behind e (onward 32 None (skips 32 refl) nothing_left)

pub digit_of_lem : (radix b d : ℕ) → digit_value b ≡ d → d < radix → digit_of radix b ≡ Some d
digit_of_lem radix b d e h = rw e (cond-true _ _ _ (lt-ltb d radix h))
