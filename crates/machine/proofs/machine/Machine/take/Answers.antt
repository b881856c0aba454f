use Rattle.std.proofs.Common.{◌≡◌, ℕ, List, length, Err, Result, sym, refl, ap, ◌∙◌, subst, rules}
use Rattle.image.specs.Reading.{Answer}
use Rattle.image.specs.Reading.Answer.{good}
use Rattle.book.specs.Calls.{Outcome}
use Rattle.book.specs.Calls.Call.{Take}
use Rattle.book.specs.Calls.Outcome.{packet}
use Rattle.machine.specs.declared.fault.MachineFault.{MachineFault}
use Rattle.machine.specs.Did.{Spared}
use Rattle.machine.proofs.Calling.{did, did_nothing}
use Rattle.machine.proofs.machine.Machine.take.Goals as goal

pub returns-in_err-row : goal.returns-in_err-row
returns-in_err-row g c =
    let f = c.in_err-row.field-0.0 in
    let e : c.from_residual.result ≡ Err f = search rules in
    record {
      did = did_nothing g.A.Arith.Arithmetic.plus g.A.Arith.Arithmetic.minus g.A.Atom.ran (Take (length c.args.out.now)) (λ _. packet c.args.out.now) c.from_residual.result f c.args.self.now tt e c.in_err-row.ensures.answer;
      spared = subst (λ (q : Result (Unit {0}) MachineFault). Spared q c.args.out.now c.args.out.now) (sym e) refl;
    }

pub returns : goal.returns
returns g c =
    let m = c.args.self.now in
    let out = c.write_finals.new.out in
    record {
      did =
          did g.A.Arith.Arithmetic.plus g.A.Arith.Arithmetic.minus g.A.Atom.ran (Take (length c.args.out.now)) (good (packet out)) m _ tt
          (ap {B = Answer Outcome} (λ (l : List ℕ). good (packet l)) (c.write_finals.ensures c.in_ok-row.ensures.long) ∙ c.in_ok-row.ensures.answer)
          (record { places = c.put.ensures; carried = refl; counts = refl; words = refl })
          tt refl refl;
      spared = tt;
    }
