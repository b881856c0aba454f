use Rattle.std.proofs.Common.{ℕ, ◌+◌, List, set, Option, sym, refl, ap, ◌∙◌, arith}
use Rattle.plans.specs.Pipeline.{pipeline_of}
use Rattle.machine.specs.Held.{contents}
use Rattle.machine.proofs.Passing.{moved_some}
use Rattle.machine.proofs.machine.Machine.advance.Goals as goal

pub returns-in-Some : goal.returns-in-Some
returns-in-Some g c =
    let m = c.args.self.now in
    let y = c.pass.new.self in
    record {
      moved =
          moved_some (pipeline_of g.A.Arith.Arithmetic.plus g.A.Arith.Arithmetic.minus g.A.Atom.ran m.plan) c.args.stood.now c.args.q (c.args.q + 1) c.in-Some.number (contents m) _ (contents y) (sym c.at-packet.ensures ∙ c.in-Some.is) (omega (arith, c.requires, m.held.rows_long)) (omega (arith, c.requires, m.held.counts_long))
          (c.put.ensures ∙ ap {B = List (Option ℕ)} (set m.held.places (c.args.q + 1)) c.at-packet.ensures) refl refl refl (y.held.words_long ∙ sym m.held.words_long) c.pass.ensures.passed;
      same = record { plan = c.pass.ensures.same.plan; atom = c.pass.ensures.same.atom };
    }
