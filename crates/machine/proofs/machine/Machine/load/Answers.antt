use Rattle.machine.proofs.machine.Machine.load.Goals as goal

pub returns-clause-fresh : goal.returns-clause-fresh
returns-clause-fresh g c = c.clear.ensures.fresh g.A.Arith.Arithmetic.plus g.A.Arith.Arithmetic.minus g.A.Atom.ran c.args.plan
