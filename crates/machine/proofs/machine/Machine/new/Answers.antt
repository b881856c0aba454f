use Rattle.std.proofs.Common.{◌≡◌, ◌≤◌, [], ◌∷◌, sym, subst, arith}
use Rattle.transaction.specs.Programs.{program_of}
use Rattle.image.specs.Reading.{good, image_says}
use Rattle.book.specs.Agrees.{Fresh}
use Rattle.book.specs.Run.{one_alone}
use Rattle.book.specs.Right.{Right}
use Rattle.plans.specs.declared.plan.Plan.{Plan}
use Rattle.plans.specs.Idle.{idle_program, one}
use Rattle.plans.specs.Pipeline.{pipeline_of}
use Rattle.machine.specs.Held.{contents}
use Rattle.machine.proofs.Beginning.{right_for}
use Rattle.machine.proofs.machine.Machine.new.Goals as goal

pub returns : goal.returns
returns g c =
    let same = c.of_plan.ensures.plan in
    let some : 1 ≤ c.idle_plan.result.placement.stages.count = c.idle_plan.result.some_stage in
    let few : c.idle_plan.result.placement.stages.count ≤ 1 = (c.idle_plan.ensures.sound g.A.Arith.Arithmetic.plus g.A.Arith.Arithmetic.minus g.A.Atom.ran).placed.within in
    record {
      fresh = subst (λ (y : Plan). Fresh (pipeline_of g.A.Arith.Arithmetic.plus g.A.Arith.Arithmetic.minus g.A.Atom.ran y) (contents c.of_plan.result)) (sym same) c.of_plan.ensures.fresh;
      right = subst (λ (y : Plan). Right (pipeline_of g.A.Arith.Arithmetic.plus g.A.Arith.Arithmetic.minus g.A.Atom.ran y) (one_alone g.A.Arith.Arithmetic.plus g.A.Arith.Arithmetic.minus idle_program)) (sym same) (right_for g.A.Arith.Arithmetic.plus g.A.Arith.Arithmetic.minus g.A.Atom.ran g.met.A.Arith.Arithmetic.sums g.met.A.Arith.Arithmetic.differences one c.idle_plan.result idle_program (c.idle_plan.ensures.sound g.A.Arith.Arithmetic.plus g.A.Arith.Arithmetic.minus g.A.Atom.ran) c.idle_plan.ensures.program);
      program = subst (λ (y : Plan). program_of y.transaction ≡ idle_program) (sym same) c.idle_plan.ensures.program;
      image = subst (λ (y : Plan). image_says (1 ∷ 1 ∷ 0 ∷ 0 ∷ []) ≡ good (program_of y.transaction)) (sym same) c.idle_plan.ensures.image;
      depth = subst (λ (y : Plan). y.placement.stages.count ≡ 1) (sym same) (omega (arith, some, few));
      atom = c.of_plan.ensures.atom;
    }
