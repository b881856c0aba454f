use Rattle.std.proofs.Common.{◌≡◌, ◌≤◌, length, take, refl, ap, ◌∙◌, arith, length-set, length-take-le, get_or-set_other}
use Rattle.meaning.specs.Serial.{values}
use Rattle.lines.proofs.Blank.{all_blank}
use Rattle.lines.proofs.Working.{works, all_worked, table_satisfied}
use Rattle.lines.proofs.lines.Lines.work_out.Goals as goal

pub loop-n-init : goal.loop-n-init
loop-n-init g c = record { long = refl; worked = refl; past = λ k h. all_blank 0 208 k }

pub loop-n-preserved : goal.loop-n-preserved
loop-n-preserved g c =
    let v = c.loop-n.invariant in
    let n = c.loop-n.n in
    let t = c.args.self.now in
    let few : length c.body-line-items.result.now ≤ 208 = omega (arith, ap length c.body-line-items.ensures, length-take-le t.count t.lines (omega arith)) in
    record {
      long = length-set c.loop-n.made n _ ∙ v.long;
      worked = works g.M.Arithmetic.plus g.M.Arithmetic.minus (values c.args.fields.now c.args.words.now) c.body-line-items.result.now n _ c.loop-n.made c.make.result (omega arith) (omega arith) c.make.ensures v.worked;
      past = λ k h. get_or-set_other c.loop-n.made n k _ 0 (λ e. omega arith) ∙ v.past k (omega arith);
    }

pub returns : goal.returns
returns g c =
    let t = c.args.self.now in
    let v = c.loop-n.invariant in
    let packet = values c.args.fields.now c.args.words.now in
    let ls = c.body-line-items.result.now in
    let long : length ls ≡ t.count = ap length c.body-line-items.ensures ∙ length-take-le t.count t.lines (omega arith) in
    let done = all_worked g.M.Arithmetic.plus g.M.Arithmetic.minus packet ls (take t.count t.lines) c.loop-n.n t.count c.loop-n.made (omega arith) (omega arith) c.body-line-items.ensures v.worked in
    record {
      worked = done;
      satisfied = table_satisfied g.M.Arithmetic.plus g.M.Arithmetic.minus packet (take t.count t.lines) t.count c.loop-n.made (length-take-le t.count t.lines (omega arith)) t.ordered done;
      past = λ k h. v.past k (omega arith);
    }
