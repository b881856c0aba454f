-- How a fault is told. Assumes nothing.
use Rattle.std.specs.Prelude.{ℕ, ◌+◌, ◌-◌, ◌^◌, min, List, ◌++◌, codes, decimal}
use Rattle.text.specs.declared.fault.TextFault.{TextFault}
use Rattle.text.specs.declared.fault.TextFault.TheVariants.{Malformed, Memory}

-- as it is printed
abbrev pub fault_text : TextFault → List ℕ
fault_text (Malformed column) = codes "malformed " ++ decimal column
fault_text Memory = codes "out of memory"

-- the fault of a line whose part from a column on has the one given; columns stop at the largest usize
abbrev pub fault_behind : ℕ → TextFault → TextFault
fault_behind from (Malformed column) = Malformed (min (column + from) (2 ^ 64 - 1))
fault_behind from Memory = Memory
