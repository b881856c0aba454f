-- Each reading fault's number and place in the table of refusals. Assumes nothing.
use Rattle.std.specs.Prelude.{ℕ}
use Rattle.transaction.specs.declared.refusal.Refusal.{Refusal}
use Rattle.transaction.specs.declared.fault.ReadFault.{ReadFault}
use Rattle.transaction.specs.declared.fault.ReadFault.TheVariants.{Malformed, OutOfRange, Undefined, Misnested, Trailing}

abbrev pub refusal : ℕ → ℕ → Refusal
refusal n at = record { number = n; place = at }

abbrev pub read_refusal : ReadFault → Refusal
read_refusal (Malformed at) = refusal 3 at
read_refusal (OutOfRange at) = refusal 4 at
read_refusal (Undefined at) = refusal 5 at
read_refusal (Misnested at) = refusal 6 at
read_refusal (Trailing at) = refusal 7 at
