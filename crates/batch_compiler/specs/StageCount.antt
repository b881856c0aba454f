-- What is told of an image by its number of stages alone. Assumes nothing.
use Rattle.std.specs.Prelude.{ℕ, Ok, Err, Result}
use Rattle.image.specs.Reading.{Answer, good, bad}
use Rattle.compiler.specs.declared.fault.CompileFault.{CompileFault}
use Rattle.compiler.specs.Faults.{compile_refusal}

-- as `outcome` of compiler tells a plan
abbrev pub counted : Result ℕ CompileFault → Answer ℕ
counted (Ok n) = good n
counted (Err f) = bad (compile_refusal f)
