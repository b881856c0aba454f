-- The codelet fault's number and place in the table of refusals. Assumes nothing.
use Rattle.transaction.specs.declared.refusal.Refusal.{Refusal}
use Rattle.transaction.specs.Faults.{refusal}
use Rattle.codelets.specs.declared.fault.CodeletFault.{CodeletFault}
use Rattle.codelets.specs.declared.fault.CodeletFault.TheVariants.{TwoStates}

abbrev pub codelet_refusal : CodeletFault → Refusal
codelet_refusal (TwoStates s) = refusal 8 s
