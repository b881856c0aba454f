use Rattle.std.proofs.Common.{◌≡◌, replicate, refl, subst}
use Rattle.lines.specs.declared.line.Source.{Source}
use Rattle.resolving.specs.declared.codelet.Codelet.{Codelet}
use Rattle.resolving.specs.declared.decided.Decided.{Decided}
use Rattle.resolving.specs.Sameness.{undecided}
use Rattle.atoms.specs.Rightness.{Right}
use Rattle.updates.specs.Inner.{update_of}
use Rattle.plans.specs.Updates.{codelet_of}
use Rattle.compiler.proofs.Fitting.{the_codelet, room, answered, fitted}
use Rattle.compiler.proofs.atom_settings.Fitter.setting_of.Goals as goal

pub returns : goal.returns
returns g c =
    let r = c.args.codelets.now.lines in
    let s = c.args.s in
    let k = c.codelet_of-codelet.ensures in
    let e : c.codelet_of-codelet.result ≡ codelet_of r s = the_codelet r s c.codelet_of-codelet.result k.lines k.inner k.read in
    let d : c.none.result ≡ undecided = c.none.ensures.nothing in
    let u : c.update_of.result ≡ update_of r s = c.update_of.ensures in
    rw c.then_some.ensures (fitted g.A.Atom.takes g.A.Arith.Arithmetic.plus g.A.Arith.Arithmetic.minus g.A.Atom.ran r s c.fit.result c.fit.new.buffer
    (answered g.A.Atom.takes r s _ _ _ c.fit.result c.fit.result e d u c.fit.ensures.answer refl)
    (λ yes.
    let right = c.fit.ensures.right yes (room g.A.Atom.len (replicate 64 0) c.args.self.now.short refl) in
    subst (λ (x : Source). Right g.A.Arith.Arithmetic.plus g.A.Arith.Arithmetic.minus g.A.Atom.ran (codelet_of r s) undecided x c.fit.new.buffer) u (subst (λ (x : Decided). Right g.A.Arith.Arithmetic.plus g.A.Arith.Arithmetic.minus g.A.Atom.ran (codelet_of r s) x c.update_of.result c.fit.new.buffer) d (subst (λ (x : Codelet). Right g.A.Arith.Arithmetic.plus g.A.Arith.Arithmetic.minus g.A.Atom.ran x c.none.result c.update_of.result c.fit.new.buffer) e right))))
