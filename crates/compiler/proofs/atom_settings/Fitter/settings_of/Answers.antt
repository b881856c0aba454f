use Rattle.std.proofs.Common.{◌≡◌, ℕ, List, length, set, get_or, [], None, Err, Option, Result, sym, refl, ap, ◌∙◌, subst, arith, length-set}
use Rattle.std.specs.Option.{ok_or}
use Rattle.std.proofs.lemmas.List.{set-get_or}
use Rattle.std.proofs.lemmas.Result.{err_from_is_err_and}
use Rattle.compiler.specs.declared.fault.AtomFault.{AtomFault}
use Rattle.compiler.specs.declared.fault.AtomFault.TheVariants.{Update}
use Rattle.compiler.proofs.Fitting.{set_none, set_unnamed, set_taken, set_all, set_refused}
use Rattle.compiler.proofs.atom_settings.Fitter.settings_of.Goals as goal
use Rattle.compiler.proofs.atom_settings.Fitter.settings_of.Goals.{then-at+in_ok-setting, else-at}

pub loop-s-init : goal.loop-s-init
loop-s-init g c = (set_none g.A.Atom.takes g.A.Arith.Arithmetic.plus g.A.Arith.Arithmetic.minus g.A.Atom.ran c.args.codelets.now.lines _, refl)

pub loop-s-preserved : goal.loop-s-preserved
loop-s-preserved g c =
    let r = c.args.codelets.now.lines in
    let xs = c.loop-s.setting-items in
    elim c.if-at.branch [
      | then-at+in_ok-setting w ↦
          let made = w.in_ok-setting.field-0 in
          let kept : c.if-at.setting-items ≡ set xs c.loop-s.s made = w.setting-items-is in
          (set_taken g.A.Atom.takes g.A.Arith.Arithmetic.plus g.A.Arith.Arithmetic.minus g.A.Atom.ran r c.loop-s.s xs c.if-at.setting-items w.setting_of.result made kept (omega (arith, c.loop-s.invariant.1, c.loop-s-test.true)) w.in_ok-setting.ensures.ok_part w.setting_of.ensures c.loop-s.invariant.0, ap length kept ∙ length-set xs c.loop-s.s made ∙ c.loop-s.invariant.1)
      | else-at w ↦
          let kept : c.if-at.setting-items ≡ set xs c.loop-s.s (get_or xs c.loop-s.s []) = w.setting-items-is in
          let same : c.if-at.setting-items ≡ xs = kept ∙ set-get_or xs c.loop-s.s [] in
          (set_unnamed g.A.Atom.takes g.A.Arith.Arithmetic.plus g.A.Arith.Arithmetic.minus g.A.Atom.ran r c.loop-s.s xs c.if-at.setting-items same (sym c.at.ensures ∙ w.if-at.false) c.loop-s.invariant.0, ap length same ∙ c.loop-s.invariant.1)
    ]

pub returns : goal.returns
returns g c = set_all g.A.Atom.takes g.A.Arith.Arithmetic.plus g.A.Arith.Arithmetic.minus g.A.Atom.ran c.args.codelets.now.lines c.loop-s.s c.loop-s.setting-items c.loop-s-test.false c.loop-s.invariant.0

pub returns-in_err-setting : goal.returns-in_err-setting
returns-in_err-setting g c =
    let n = c.loop-s.s in
    let p = err_from_is_err_and c.from_residual.result c.from_residual.ensures.1 in
    let none : c.setting_of.result ≡ None = c.in_err-setting.ensures.ok_part in
    let was : ◌≡◌ {A = Result (List ℕ) AtomFault} (Err c.in_err-setting.field-0.0) (Err (Update n)) = subst (λ (o : Option (List ℕ)). Err c.in_err-setting.field-0.0 ≡ ok_or o (Update n)) none c.in_err-setting.ensures.value in
    let told : c.in_err-setting.field-0.0 ≡ Update n = cc in
    let answer : c.from_residual.result ≡ Err (Update n) = p.1 ∙ ap Err (p.2 ∙ told) in
    set_refused g.A.Atom.takes g.A.Arith.Arithmetic.plus g.A.Arith.Arithmetic.minus g.A.Atom.ran c.args.codelets.now.lines n c.loop-s.setting-items c.setting_of.result c.from_residual.result answer c.loop-s-test.true (sym c.at.ensures ∙ c.if-at.true) none c.setting_of.ensures c.loop-s.invariant.0
