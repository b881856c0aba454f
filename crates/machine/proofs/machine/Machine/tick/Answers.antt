use Rattle.std.proofs.Common.{◌≡◌, ℕ, ◌+◌, ◌-◌, ◌<◌, false, is_some, sym, refl, ap, ◌∙◌, subst, arith, rules}
use Rattle.image.specs.Reading.{Answer}
use Rattle.image.specs.Reading.Answer.{good}
use Rattle.book.specs.Calls.{Outcome, ticking}
use Rattle.book.specs.Pipeline.{packet_at}
use Rattle.book.specs.Calls.Call.{Tick}
use Rattle.book.specs.Calls.Outcome.{done}
use Rattle.plans.specs.declared.plan.Plan.{Plan}
use Rattle.plans.specs.Pipeline.{pipeline_of}
use Rattle.machine.specs.Held.{contents}
use Rattle.machine.specs.Moved.{Moved}
use Rattle.machine.proofs.Calling.{did}
use Rattle.machine.proofs.Passing.{passing_more, passing_all}
use Rattle.machine.proofs.machine.Machine.tick.Goals as goal

pub loop-q-preserved : goal.loop-q-preserved
loop-q-preserved g c =
    let m = c.args.self.now in
    let x = c.loop-q.self in
    let y = c.advance.new.self in
    let q : ℕ = c.loop-q.q - 1 in
    let inv = c.loop-q.invariant in
    let below : q < m.plan.placement.stages.count = omega (arith, c.loop-q-test.true, c.loop-q.auto.q) in (
      passing_more (pipeline_of g.A.Arith.Arithmetic.plus g.A.Arith.Arithmetic.minus g.A.Atom.ran m.plan) q (q + 1) c.loop-q.q (contents m) (contents x) (contents y) (omega arith) (omega (arith, c.loop-q-test.true)) below (omega (arith, x.held.places_long, m.plan.few_stages)) inv.0
          (subst (λ (p : Plan). Moved (pipeline_of g.A.Arith.Arithmetic.plus g.A.Arith.Arithmetic.minus g.A.Atom.ran p) m.held.words q (q + 1) (contents x) (contents y)) inv.1.plan c.advance.ensures.moved),
      record { plan = c.advance.ensures.same.plan ∙ inv.1.plan; atom = c.advance.ensures.same.atom ∙ inv.1.atom },
    )

pub returns : goal.returns
returns g c =
    let m = c.args.self.now in
    let x = c.loop-q.self in
    let d = m.plan.placement.stages.count in
    let empty : is_some (packet_at (contents m) d) ≡ false = search rules in
    did g.A.Arith.Arithmetic.plus g.A.Arith.Arithmetic.minus g.A.Atom.ran Tick (good done) m _ tt
    (ap {B = Answer Outcome} (ticking d) (sym empty))
    (passing_all (pipeline_of g.A.Arith.Arithmetic.plus g.A.Arith.Arithmetic.minus g.A.Atom.ran m.plan) c.loop-q.q (contents m) (contents x) _ (omega (arith, c.loop-q-test.false)) (omega (arith, x.held.places_long)) c.loop-q.invariant.0 c.put.ensures refl refl refl)
    tt c.loop-q.invariant.1.plan c.loop-q.invariant.1.atom
