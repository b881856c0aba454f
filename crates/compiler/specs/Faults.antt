-- Each compile fault's number and place in the table of refusals. Assumes nothing.
use Rattle.transaction.specs.declared.refusal.Refusal.{Refusal}
use Rattle.transaction.specs.Faults.{refusal, read_refusal}
use Rattle.codelets.specs.Faults.{codelet_refusal}
use Rattle.stages.specs.Faults.{limit_refusal, stage_refusal}
use Rattle.compiler.specs.declared.fault.AtomFault.{AtomFault}
use Rattle.compiler.specs.declared.fault.AtomFault.TheVariants.{Setting, Update}
use Rattle.compiler.specs.declared.fault.CompileFault.{CompileFault}
use Rattle.compiler.specs.declared.fault.CompileFault.TheVariants.{Limits, Atoms, Image, Codelets, Stages}

abbrev pub atom_refusal : AtomFault → Refusal
atom_refusal (Setting length) = refusal 2 length
atom_refusal (Update s) = refusal 9 s

abbrev pub compile_refusal : CompileFault → Refusal
compile_refusal (Limits f) = limit_refusal f
compile_refusal (Atoms f) = atom_refusal f
compile_refusal (Image f) = read_refusal f
compile_refusal (Codelets f) = codelet_refusal f
compile_refusal (Stages f) = stage_refusal f
