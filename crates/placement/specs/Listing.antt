-- The nodes of a stage, as they are listed. Assumes nothing.
use Rattle.std.specs.Prelude.{ℕ, ◌-◌, List, ◌++◌, Some, None, Option, codes, decimal, if◌then◌else◌, nat_eq, nat_lt, slice_index_or}
use Rattle.lines.specs.declared.line.Line.TheVariants.{Read}
use Rattle.stages.specs.declared.node.Node.{Node}
use Rattle.stages.specs.declared.node.Node.TheVariants.{Line as ALine, Echo as AnEcho, Atom as AnAtom}
use Rattle.placement.specs.declared.placed.Placement.{Placement}
use Rattle.placement.specs.declared.listing.Listed.{Listed}
use Rattle.placement.specs.declared.listing.Listed.TheVariants.{Line, Echo, Atom}

-- as it is printed
abbrev pub listed_text : Listed → List ℕ
listed_text (Line n) = codes "line " ++ decimal n
listed_text (Echo n) = codes "echo " ++ decimal n
listed_text (Atom s) = codes "atom " ++ decimal s

-- the node at a line, where it stands in the stage
abbrev pub node_in : Placement → ℕ → ℕ → Option Node
node_in p stage n = if nat_eq (slice_index_or p.stages.stage_of n 0) stage then slice_index_or p.nodes.sorts n None else None

-- the state that a line reads, for the line of an atom is the read of its state
abbrev pub atom_state : Placement → ℕ → ℕ
atom_state p n = elim (slice_index_or p.codelets.lines.lines n (Read 0)) [ Read s ↦ s | _ ↦ 0 ]

-- a line or an echo by its number
abbrev pub stateless_in : Placement → ℕ → ℕ → Option Listed
stateless_in p stage n = elim (node_in p stage n) [ Some node ↦ elim node [ ALine ↦ Some (Line n) | AnEcho ↦ Some (Echo n) | AnAtom ↦ None ] | None ↦ None ]

-- an atom by its state
abbrev pub atom_in : Placement → ℕ → ℕ → Option Listed
atom_in p stage n = elim (node_in p stage n) [ Some node ↦ elim node [ ALine ↦ None | AnEcho ↦ None | AnAtom ↦ Some (Atom (atom_state p n)) ] | None ↦ None ]

-- the lines and echoes of a stage stand at their numbers, and its atoms 208 places past the lines that read their states
abbrev pub listed_at : Placement → ℕ → ℕ → Option Listed
listed_at p stage k = if nat_lt k 208 then stateless_in p stage k else atom_in p stage (k - 208)
