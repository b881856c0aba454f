-- One byte of a line more, and its end. Assumes nothing.
use Rattle.std.proofs.Common.{◌≡◌, ℕ, ◌+◌, ◌<◌, List, [], ◌∷◌, ◌++◌, length, get_or, drop, None, Ok, Err, Option, Result, sym, ap, ◌∙◌, subst, arith}
use Rattle.std.proofs.lemmas.List.{at_drop_more, at_drop_all}
use Rattle.text.specs.declared.fault.TextFault.{TextFault}
use Rattle.text.specs.declared.fault.TextFault.TheVariants.{Malformed, Memory}
use Rattle.text.specs.declared.step.Step.{Step}
use Rattle.text.specs.declared.step.Step.TheVariants.{Onward, Whole, Stuck}
use Rattle.text.specs.Decoding.{Adds, CarriedOut, Decoded, decoded, malformed, read_from}

module _ {T : Type 0} (step : Option T → ℕ → Step T) (begun : Option T) (column : ℕ) (items : List T) (b : ℕ) (bs : List ℕ) where
  pub read_onward : (next : Option T) → Onward next ≡ step begun b → read_from step begun column items (b ∷ bs) ≡ read_from step next (column + 1) items bs
  read_onward next e = rw (← e, read_from)

  pub read_whole : (item : T) → Whole item ≡ step begun b → read_from step begun column items (b ∷ bs) ≡ read_from step None (column + 1) (items ++ item ∷ []) bs
  read_whole item e = rw (← e, read_from)

  pub read_stuck : Stuck ≡ step begun b → read_from step begun column items (b ∷ bs) ≡ malformed column
  read_stuck e = rw (← e, read_from)

  -- the bytes past one whose step is carried out
  carried : (s : Step T) → s ≡ step begun b → (next : Option T) (found : List T) → CarriedOut s column items (Ok next) found → read_from step begun column items (b ∷ bs) ≡ read_from step next (column + 1) found bs
  carried (Onward now) e next found h = read_onward now e ∙ cc (h.0, h.1)
  carried (Whole item) e next found h = read_whole item e ∙ cc (h.0, h.1)
  carried Stuck e next found h = absurd h

  -- a fault at a byte
  refused : (s : Step T) → s ≡ step begun b → (fault : TextFault) (found : List T) → CarriedOut s column items (Err fault) found → Adds (read_from step begun column items (b ∷ bs)) (Err fault) found
  refused s e (Malformed place) found h = read_stuck (sym h.0 ∙ e) ∙ ap malformed (sym h.1)
  refused s e Memory found h = tt

-- what is left of a line from a column on gives d
module _ {T : Type 0} (step : Option T → ℕ → Step T) (begun : Option T) (column : ℕ) (items : List T) (line : List ℕ) (d : Decoded T) (gives : read_from step begun column items (drop column line ++ 32 ∷ []) ≡ d) where
  -- a byte stands there
  module _ (within : column < length line) (s : Step T) (steps : s ≡ step begun (get_or line column 0)) where
    at_byte : read_from step begun column items (get_or line column 0 ∷ (drop (column + 1) line ++ 32 ∷ [])) ≡ d
    at_byte = sym (at_drop_more (λ bs. read_from step begun column items (bs ++ 32 ∷ [])) line column 0 within) ∙ gives

    pub goes_on : (next : Option T) (found : List T) → CarriedOut s column items (Ok next) found → read_from step next (column + 1) found (drop (column + 1) line ++ 32 ∷ []) ≡ d
    goes_on next found h = sym (carried step begun column items _ _ s steps next found h) ∙ at_byte

    pub stops : (fault : TextFault) (found : List T) → CarriedOut s column items (Err fault) found → Adds d (Err fault) found
    stops fault found h = subst (λ x. Adds x (Err fault) found) at_byte (refused step begun column items _ _ s steps fault found h)

  -- the line ends there
  module _ (ended : length line ≡ column) (s : Step T) (steps : s ≡ step begun 32) where
    at_end : read_from step begun column items (32 ∷ []) ≡ d
    at_end = sym (at_drop_all (λ bs. read_from step begun column items (bs ++ 32 ∷ [])) line column (omega arith)) ∙ gives

    at_column : (r : Result (Option T) TextFault) (found : List T) → CarriedOut s (length line) items r found → CarriedOut s column items r found
    at_column r found h = subst (λ n. CarriedOut s n items r found) ended h

    pub ends : (next : Option T) (found : List T) → CarriedOut s (length line) items (Ok next) found → d ≡ decoded found
    ends next found h = sym at_end ∙ carried step begun column items 32 [] s steps next found (at_column (Ok next) found h)

    pub stops_at_end : (fault : TextFault) (found : List T) → CarriedOut s (length line) items (Err fault) found → Adds d (Err fault) found
    stops_at_end fault found h = subst (λ x. Adds x (Err fault) found) at_end (refused step begun column items 32 [] s steps fault found (at_column (Err fault) found h))
