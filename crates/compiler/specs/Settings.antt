-- What comes of fitting an atom to the updates of all states. Assumes nothing.
use Rattle.std.specs.Prelude.{◌≡◌, ℕ, ◌<◌, ◌≤◌, Bool, true, false, List, [], Some, None, Ok, Err, Option, Result, slice_index_or}
use Rattle.lines.specs.declared.line.Source.{Source}
use Rattle.lines.specs.declared.lines.Lines.{Lines}
use Rattle.codelets.specs.Codelets.{is_named}
use Rattle.resolving.specs.declared.codelet.Codelet.{Codelet}
use Rattle.resolving.specs.declared.decided.Decided.{Decided}
use Rattle.resolving.specs.declared.packet.Packet.{Packet}
use Rattle.resolving.specs.Sameness.{undecided}
use Rattle.updates.specs.Inner.{update_of}
use Rattle.atoms.specs.Rightness.{Right}
use Rattle.plans.specs.Updates.{codelet_of}
use Rattle.compiler.specs.declared.fault.AtomFault.{AtomFault}
use Rattle.compiler.specs.declared.fault.AtomFault.TheVariants.{Setting, Update}
use Rattle.compiler.specs.Verdict.{untaken}

-- a setting of at most 64 numbers, or how many there are
abbrev pub Short : {X : Type 0} → ℕ → Result X AtomFault → Type 0
Short len (Ok x) = len ≤ 64
Short len (Err (Setting n)) = (64 < len) × (n ≡ len)
Short len (Err (Update s)) = ⊥

module _ (plus minus : ℕ → ℕ → ℕ) (takes : Codelet → Decided → Source → Bool) (ran : List ℕ → ℕ → Packet → ℕ) (r : Lines) where
  -- the numbers are a setting that is right for state s's update
  abbrev pub FitsUpdate : ℕ → List ℕ → Type 0
  FitsUpdate s setting = Right plus minus ran (codelet_of r s) undecided (update_of r s) setting

  abbrev pub Fitted : ℕ → Option (List ℕ) → Type 0
  Fitted s None = takes (codelet_of r s) undecided (update_of r s) ≡ false
  Fitted s (Some setting) = (takes (codelet_of r s) undecided (update_of r s) ≡ true) × FitsUpdate s setting

  -- the states below n are taken, and their settings are right
  pub record SetBelow (n : ℕ) (settings : List (List ℕ)) : Type 0 where
    pub taken : (s : ℕ) → s < n → untaken takes r s ≡ false
    pub right : (s : ℕ) → s < n → is_named r s ≡ true → FitsUpdate s (slice_index_or settings s [])

  abbrev pub Set : Result (List (List ℕ)) AtomFault → Type 0
  Set (Ok settings) = SetBelow 8 settings
  Set (Err (Setting n)) = ⊥
  Set (Err (Update s)) = (s < 8) × (untaken takes r s ≡ true) × ((t : ℕ) → t < s → untaken takes r t ≡ false)
