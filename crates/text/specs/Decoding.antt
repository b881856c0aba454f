-- A line decoded, byte for byte, and what a call answers then. Assumes nothing.
use Rattle.std.specs.Prelude.{◌≡◌, ℕ, ◌+◌, List, [], ◌∷◌, ◌++◌, None, Ok, Err, Option, Result}
use Rattle.text.specs.declared.fault.TextFault.{TextFault}
use Rattle.text.specs.declared.fault.TextFault.TheVariants.{Malformed, Memory}
use Rattle.text.specs.declared.step.Step.{Step}
use Rattle.text.specs.declared.step.Step.TheVariants.{Onward, Whole, Stuck}

-- the items of a line, or the column at which it is malformed
pub data Decoded (T : Type 0) : Type 0 where
  decoded : List T → Decoded T
  malformed : ℕ → Decoded T

-- the bytes from a column on, after the items before it and with one begun or none
abbrev pub read_from : {T : Type 0} → (Option T → ℕ → Step T) → Option T → ℕ → List T → List ℕ → Decoded T
read_from step begun column items [] = decoded items
read_from step begun column items (b ∷ bs) =
    elim (step begun b) [
      | Onward next ↦ read_from step next (column + 1) items bs
      | Whole item ↦ read_from step None (column + 1) (items ++ item ∷ []) bs
      | Stuck ↦ malformed column
    ]

-- a whole line, after the items given: its end ends an item as a blank does
abbrev pub reading : {T : Type 0} → (Option T → ℕ → Step T) → List T → List ℕ → Decoded T
reading step items line = read_from step None 0 items (line ++ 32 ∷ [])

-- a whole line
abbrev pub decoding : {T : Type 0} → (Option T → ℕ → Step T) → List ℕ → Decoded T
decoding step line = reading step [] line

-- what carrying out the step at a column answers, and what the Vec holds then
abbrev pub CarriedOut : {T : Type 0} → Step T → ℕ → List T → Result (Option T) TextFault → List T → Type 0
CarriedOut step column items (Ok begun) found = elim step [ Onward next ↦ (begun ≡ next) × (found ≡ items) | Whole item ↦ (begun ≡ None) × (found ≡ items ++ item ∷ []) | Stuck ↦ ⊥ ]
CarriedOut step column items (Err (Malformed place)) found = (step ≡ Stuck) × (place ≡ column)
CarriedOut step column items (Err Memory) found = Unit {0}

-- what a call that adds items answers, and what the Vec holds then
abbrev pub Adds : {T : Type 0} → Decoded T → Result (Unit {0}) TextFault → List T → Type 0
Adds d (Ok _) items = d ≡ decoded items
Adds d (Err (Malformed column)) items = d ≡ malformed column
Adds d (Err Memory) items = Unit {0}

-- what a call answers, and what the Vec holds then: the line's items and no other, or nothing where there is a fault;
-- memory may be wanting at any line
abbrev pub Answers : {T : Type 0} → Decoded T → Result (Unit {0}) TextFault → List T → Type 0
Answers d (Ok _) items = d ≡ decoded items
Answers d (Err (Malformed column)) items = (d ≡ malformed column) × (items ≡ [])
Answers d (Err Memory) items = items ≡ []
