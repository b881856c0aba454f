use Rattle.std.proofs.Common.{ℕ, refl}
use Rattle.image.specs.Reading.{Answer}
use Rattle.book.specs.Calls.{Outcome}
use Rattle.book.specs.Calls.Call.{Peek}
use Rattle.book.specs.Calls.Outcome.{word}
use Rattle.book.specs.Pipeline.{Pipeline, Contents, Stepped}
use Rattle.machine.specs.declared.machine.Machine.{Machine}
use Rattle.machine.specs.Faults.{answered}
use Rattle.machine.specs.Held.{contents}
use Rattle.machine.specs.Did.{Kept}
use Rattle.machine.proofs.Calling.{did}
use Rattle.machine.proofs.machine.Machine.peek.Goals as goal

stays : {Row : Type 0} (P : Pipeline Row) (s : ℕ) (r : Answer Outcome) (m : Contents Row) → Stepped P r (Peek s) m m
stays P s (Answer.good o) m = refl
stays P s (Answer.bad f) m = refl

keeps : {A : Type 0} (r : Answer Outcome) (m : Machine A) → Kept r m m
keeps (Answer.good o) m = tt
keeps (Answer.bad f) m = refl

pub returns : goal.returns
returns g c =
    did g.A.Arith.Arithmetic.plus g.A.Arith.Arithmetic.minus g.A.Atom.ran (Peek c.args.s) (answered (λ p. word p.0 p.1) c.glance.result) c.args.self.now c.args.self.now tt c.glance.ensures (stays _ c.args.s _ (contents c.args.self.now)) (keeps _ c.args.self.now) refl refl
