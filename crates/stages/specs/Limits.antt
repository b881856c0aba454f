-- Which limits are in range. Assumes nothing.
use Rattle.std.specs.Prelude.{ℕ, Bool, cond, ◌&&◌, Some, None, Ok, Err, Option, Result, nat_le}
use Rattle.stages.specs.declared.fault.LimitFault.{LimitFault}
use Rattle.stages.specs.declared.fault.LimitFault.TheVariants.{Stages, Lines, Atoms}

-- from 1 to the top
abbrev pub ranged : ℕ → ℕ → Bool
ranged top n = nat_le 1 n && nat_le n top

-- the first limit out of its range, if one is: at most 32 stages, 16 lines and 8 atoms
abbrev pub first_out : ℕ → ℕ → ℕ → Option LimitFault
first_out d p q = cond (ranged 32 d) (cond (ranged 16 p) (cond (ranged 8 q) None (Some Atoms)) (Some Lines)) (Some Stages)

abbrev pub fault_of : {A F : Type 0} → Result A F → Option F
fault_of (Ok a) = None
fault_of (Err f) = Some f
