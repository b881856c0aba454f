-- Each fault's number and place in the table of refusals. Assumes nothing.
use Rattle.transaction.specs.declared.refusal.Refusal.{Refusal}
use Rattle.transaction.specs.Faults.{refusal}
use Rattle.stages.specs.declared.fault.LimitFault.{LimitFault}
use Rattle.stages.specs.declared.fault.LimitFault.TheVariants.{Stages, Lines, Atoms}
use Rattle.stages.specs.declared.fault.StageFault.{StageFault}

abbrev pub limit_refusal : LimitFault → Refusal
limit_refusal Stages = refusal 1 0
limit_refusal Lines = refusal 1 1
limit_refusal Atoms = refusal 1 2

abbrev pub stage_refusal : StageFault → Refusal
stage_refusal f = refusal 10 f.needed
