-- What a setting has to give. Assumes nothing.
use Rattle.std.specs.Prelude.{◌≡◌, ℕ, true, List, [], ◌∷◌}
use Rattle.word.specs.Words.{Word}
use Rattle.lines.specs.declared.line.Source.{Source}
use Rattle.resolving.specs.declared.codelet.Codelet.{Codelet}
use Rattle.resolving.specs.declared.decided.Decided.{Decided}
use Rattle.resolving.specs.declared.packet.Packet.{Packet}
use Rattle.resolving.specs.Codelets.{line_at, is_inner, value, Words, Satisfies}
use Rattle.resolving.specs.Leaves.{is_other}
use Rattle.lines.specs.Layout.{sources_of}
use Rattle.resolving.specs.Sameness.{Holds}

-- the packet carries a source's value, where that comes from outside the codelet
abbrev pub Brings : Codelet → Packet → Packet → Source → Type 0
Brings cod all packet a = is_other cod a ≡ true → value packet a ≡ value all a

abbrev pub Each : (Source → Type 0) → List Source → Type 0
Each P [] = Unit {0}
Each P (a ∷ rest) = P a × Each P rest

-- the packet carries the outside values that the codelet's lines read: the inner lines, and for the update the write line
pub record Carries (cod : Codelet) (update : Source) (all packet : Packet) : Type 0 where
  pub written : Brings cod all packet update
  pub inner : (n : ℕ) → is_inner cod n ≡ true → Each (Brings cod all packet) (sources_of (line_at cod n))

-- With this setting the run gives the update's value: for every old word, every valuation of words that satisfies the
-- codelet's lines and in which the decided conditions hold, and every packet that carries what the lines read.
unfoldable pub Right : (plus minus : ℕ → ℕ → ℕ) (ran : List ℕ → ℕ → Packet → ℕ) → Codelet → Decided → Source → List ℕ → Type 0
Right plus minus ran cod d update setting =
    (old : ℕ) (all packet : Packet) → Word old → Words all → Satisfies plus minus cod old all → Holds d all → Carries cod update all packet → ran setting old packet ≡ value all update
