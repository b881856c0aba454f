-- The serial run of packets, with more packets behind them. Assumes nothing.
use Rattle.std.proofs.Common.{◌≡◌, ℕ, zero, suc, ◌<◌, ◌≤◌, List, [], ◌∷◌, ◌++◌, length, refl, ap₂, arith}
use Rattle.std.proofs.lemmas.List.{get_or_append_left}
use Rattle.meaning.specs.Serial.{Values, values}
use Rattle.book.specs.Run.{words_from, leaving_from}

module _ (one : Values → Values) where
  pub words_none : (ws : List ℕ) (packets : List (List ℕ)) → words_from one ws 0 packets ≡ ws
  words_none ws [] = refl
  words_none ws (fs ∷ packets) = refl

  pub words_more : (ws : List ℕ) (n : ℕ) (packets more : List (List ℕ)) → n ≤ length packets → words_from one ws n (packets ++ more) ≡ words_from one ws n packets
  words_more ws zero [] more h = words_none ws more
  words_more ws (suc n) [] more h = absurd (omega arith)
  words_more ws zero (fs ∷ packets) more h = refl
  words_more ws (suc n) (fs ∷ packets) more h = words_more (one (values fs ws)).words n packets more (omega arith)

  pub leaving_more : (ws : List ℕ) (n : ℕ) (packets more : List (List ℕ)) → n < length packets → leaving_from one ws (suc n) (packets ++ more) ≡ leaving_from one ws (suc n) packets
  leaving_more ws n packets more h =
      ap₂ {C = List ℕ} (λ (fs us : List ℕ). (one (values fs us)).fields) (get_or_append_left packets more [] n h) (words_more ws n packets more (omega arith))
