use Rattle.std.proofs.Common.{◌≡◌, ℕ, suc, List, set, Some, Err, Option, refl, ap, ◌∙◌, rules}
use Rattle.image.specs.Reading.Answer.{good}
use Rattle.resolving.specs.declared.packet.Packet.{Packet as Row}
use Rattle.book.specs.Calls.Call.{Feed}
use Rattle.book.specs.Calls.Outcome.{done}
use Rattle.book.specs.Pipeline.{count_at}
use Rattle.machine.specs.Held.{contents}
use Rattle.machine.proofs.Calling.{did, did_nothing}
use Rattle.machine.proofs.machine.Machine.feed.Goals as goal

pub returns-in_err-number : goal.returns-in_err-number
returns-in_err-number g c =
    let f = c.in_err-number.field-0.0 in
    let e : c.from_residual.result ≡ Err f = search rules in
    did_nothing g.A.Arith.Arithmetic.plus g.A.Arith.Arithmetic.minus g.A.Atom.ran (Feed c.args.fields.now) (λ _. done) c.from_residual.result f c.args.self.now (λ i. (c.type_inv.fields i).fits) e
    c.in_err-number.ensures.answer

pub returns : goal.returns
returns g c =
    let m = c.args.self.now in
    let n = c.in_ok-number.number in
    let number : n ≡ suc (count_at (contents m) 0) = c.in_ok-number.ensures.number in
    did g.A.Arith.Arithmetic.plus g.A.Arith.Arithmetic.minus g.A.Atom.ran (Feed c.args.fields.now) (good done) m _ (λ i. (c.type_inv.fields i).fits)
    c.in_ok-number.ensures.answer
    (record {
      places = c.put.ensures ∙ ap {B = List (Option ℕ)} (λ (i : ℕ). set m.held.places 0 (Some i)) number;
      carried = c.put-2.ensures ∙ ap {B = List Row} (λ (r : Row). set m.held.rows 0 r) c.entered-row.ensures;
      counts = c.put-3.ensures ∙ ap {B = List ℕ} (λ (i : ℕ). set m.held.counts 0 i) number;
      words = refl;
    })
    tt refl refl
