-- Each placement fault's number and place in the table of refusals. Assumes nothing.
use Rattle.transaction.specs.declared.refusal.Refusal.{Refusal}
use Rattle.codelets.specs.Faults.{codelet_refusal}
use Rattle.stages.specs.Faults.{stage_refusal}
use Rattle.placement.specs.declared.fault.PlaceFault.{PlaceFault}
use Rattle.placement.specs.declared.fault.PlaceFault.TheVariants.{Codelets, Stages}

abbrev pub place_refusal : PlaceFault → Refusal
place_refusal (Codelets f) = codelet_refusal f
place_refusal (Stages f) = stage_refusal f
