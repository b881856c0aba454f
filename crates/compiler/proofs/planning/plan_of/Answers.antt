use Rattle.std.proofs.Common.{sym, refl, subst}
use Rattle.std.proofs.lemmas.Result.{err_from_is_err_and}
use Rattle.transaction.specs.Programs.{statements_of}
use Rattle.lines.specs.declared.lines.Lines.{Lines}
use Rattle.lines.specs.Unique.{IsTableOf}
use Rattle.plans.proofs.Soundness.{Found}
use Rattle.compiler.proofs.Steps.{exit_codelets, exit_settings, exit_stages, planned, some_stage, few_stages, earlier}
use Rattle.compiler.proofs.planning.plan_of.Goals as goal

pub returns-in_err-codelets : goal.returns-in_err-codelets
returns-in_err-codelets g c =
    let p = err_from_is_err_and c.from_residual.result c.from_residual.ensures.1 in
    let told = exit_codelets g.A.Arith.Arithmetic.plus g.A.Arith.Arithmetic.minus g.A.Atom.takes g.A.Atom.ran c.args.transaction.now c.args.limits.now c.lines_of-lines.result (record { exact = c.lines_of-lines.ensures.exact; blank = c.lines_of-lines.ensures.blank }) c.from_residual.result p.0 c.in_err-codelets.field-0.0 p.1 p.2 c.in_err-codelets.ensures in
    record { verdict = told.verdict; plan = told.plan }

pub returns-in_err-settings : goal.returns-in_err-settings
returns-in_err-settings g c =
    let p = err_from_is_err_and c.from_residual-in_err-settings.result c.from_residual-in_err-settings.ensures.1 in
    let k = c.in_ok-codelets.codelets in
    let made = c.lines_of-lines.ensures in
    let exact = subst (λ (r : Lines). IsTableOf (statements_of c.args.transaction.now) r) (sym c.in_ok-codelets.ensures.0) (record { exact = made.exact; blank = made.blank }) in
    let told = exit_settings g.A.Arith.Arithmetic.plus g.A.Arith.Arithmetic.minus g.A.Atom.takes g.A.Atom.ran c.args.transaction.now c.args.limits.now k exact c.from_residual-in_err-settings.result p.0 c.in_err-settings.field-0.0 p.1 p.2 c.in_err-settings.ensures in
    record { verdict = told.verdict; plan = told.plan }

pub returns-in_err-placement : goal.returns-in_err-placement
returns-in_err-placement g c =
    let p = err_from_is_err_and c.from_residual-in_err-placement.result c.from_residual-in_err-placement.ensures.1 in
    let k = c.in_ok-codelets.codelets in
    let made = c.lines_of-lines.ensures in
    let exact = subst (λ (r : Lines). IsTableOf (statements_of c.args.transaction.now) r) (sym c.in_ok-codelets.ensures.0) (record { exact = made.exact; blank = made.blank }) in
    let told = exit_stages g.A.Arith.Arithmetic.plus g.A.Arith.Arithmetic.minus g.A.Atom.takes g.A.Atom.ran c.args.transaction.now c.args.limits.now k exact c.in_ok-settings.settings c.in_ok-settings.ensures c.from_residual-in_err-placement.result p.0 c.in_err-placement.field-0.0 p.1 p.2 c.in_err-placement.ensures in
    record { verdict = told.verdict; plan = told.plan }

pub invariant_of-result : goal.invariant_of-result
invariant_of-result g c =
    let k = c.in_ok-codelets.codelets in
    let p = c.in_ok-placement.placement in
    let w = c.in_ok-placement.ensures in
    record { some_stage = some_stage k c.args.limits.now p w.1; few_stages = few_stages k c.args.limits.now p w.1; earlier = earlier k c.args.limits.now p w.0 w.1 }

pub returns : goal.returns
returns g c =
    let k = c.in_ok-codelets.codelets in
    let l = c.lines_of-lines.ensures in
    let found : Found c.args.transaction.now k.lines = subst (λ (r : Lines). Found c.args.transaction.now r) (sym c.in_ok-codelets.ensures.0) (record { exact = l.exact; there = l.there; order = l.order; meaning = l.meaning; makes = l.makes; words = l.words; blank = l.blank }) in
    let w = c.in_ok-placement.ensures in
    let told = planned g.A.Arith.Arithmetic.plus g.A.Arith.Arithmetic.minus g.A.Atom.takes g.A.Atom.ran c.args.transaction.now c.args.limits.now k found _ refl w.0 c.in_ok-settings.ensures w.1 in
    record { verdict = told.verdict; plan = told.plan }
