-- The open ifs, innermost first. Assumes nothing.
use Rattle.std.specs.Prelude.{Bool, true, false, List, [], ◌∷◌, reverse, take}
use Rattle.transaction.specs.declared.frame.Frame.{Frame}
use Rattle.transaction.specs.declared.frame.Nest.{Nest}

abbrev pub frames_of : {C : Type 0} → Nest C → List (Frame C)
frames_of n = reverse (take n.depth n.frames)

-- an if begins
abbrev pub begun : {C : Type 0} → C → List (Frame C) → List (Frame C)
begun c frames = record { on = c; second = false } ∷ frames

-- the innermost if's else comes
abbrev pub turned : {C : Type 0} → List (Frame C) → List (Frame C)
turned [] = []
turned (f ∷ frames) = record { on = f.on; second = true } ∷ frames

-- the innermost if is closed
abbrev pub outer : {C : Type 0} → List (Frame C) → List (Frame C)
outer [] = []
outer (f ∷ frames) = frames

-- for each open if, whether its else has come
abbrev pub elses : {C : Type 0} → List (Frame C) → List Bool
elses [] = []
elses (f ∷ frames) = f.second ∷ elses frames
