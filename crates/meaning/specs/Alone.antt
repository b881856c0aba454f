-- What running an image alone answers, and what it leaves. Assumes nothing.
use Rattle.std.specs.Prelude.{ℕ, cond, List, length, Some, None, Ok, Err, Option, Result, ◌==◌}
use Rattle.transaction.specs.declared.refusal.Refusal.{Refusal}
use Rattle.transaction.specs.Faults.{refusal, read_refusal}
use Rattle.transaction.specs.WellFormed.{Program}
use Rattle.image.specs.Reading.{Answer, good, bad, image_says}
use Rattle.meaning.specs.declared.fault.LengthFault.{LengthFault}
use Rattle.meaning.specs.declared.fault.LengthFault.TheVariants.{Fields, States}
use Rattle.meaning.specs.declared.fault.AloneFault.{AloneFault}
use Rattle.meaning.specs.declared.fault.AloneFault.TheVariants.{Image, Length}
use Rattle.meaning.specs.Serial.{Values, alone}

-- why there was a refusal, if there was one
abbrev pub refusal_in : {A : Type 0} → Answer A → Option Refusal
refusal_in (good a) = None
refusal_in (bad r) = Some r

-- a buffer's wrong length
abbrev pub length_refusal : LengthFault → Refusal
length_refusal (Fields n) = refusal 11 n
length_refusal (States n) = refusal 11 n

abbrev pub alone_refusal : AloneFault → Refusal
alone_refusal (Image f) = read_refusal f
alone_refusal (Length f) = length_refusal f

abbrev pub refused_run : Result (Unit {0}) LengthFault → Option Refusal
refused_run (Ok u) = None
refused_run (Err f) = Some (length_refusal f)

abbrev pub refused_alone : Result (Unit {0}) AloneFault → Option Refusal
refused_alone (Ok u) = None
refused_alone (Err f) = Some (alone_refusal f)

-- buffers of f fields and w words: the fields' length is looked at before the states'
abbrev pub sized : Program → ℕ → ℕ → Answer Program
sized p f w = cond (f == p.fields) (cond (w == p.states) (good p) (bad (refusal 11 w))) (bad (refusal 11 f))

abbrev pub lengths : Program → Values → Answer Program
lengths p v = sized p (length v.fields) (length v.words)

-- the image is looked at before the lengths
abbrev pub admitted : Answer Program → Values → Answer Program
admitted (good p) v = lengths p v
admitted (bad r) v = bad r

-- which transaction runs, or why none does
abbrev pub verdict : List ℕ → Values → Answer Program
verdict image v = admitted (image_says image) v

-- what is left: what the statements say, or on a refusal what was there
abbrev pub left : (ℕ → ℕ → ℕ) → (ℕ → ℕ → ℕ) → Answer Program → Values → Values
left plus minus (good p) v = alone plus minus p.statements v
left plus minus (bad r) v = v
