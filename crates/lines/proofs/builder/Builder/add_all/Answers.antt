use Rattle.std.proofs.Common.{◌≤◌, List, length, refl, sym, ap, ◌∙◌, arith, length-take}
use Rattle.std.proofs.lemmas.List.{at_drop_all}
use Rattle.transaction.specs.Frames.{elses}
use Rattle.transaction.specs.WellFormed.{nested}
use Rattle.transaction.specs.declared.frame.Frame.{Frame}
use Rattle.transaction.specs.declared.statement.Statement.{Statement}
use Rattle.lines.specs.declared.line.Source.{Source}
use Rattle.lines.specs.Build.{adds_all}
use Rattle.lines.specs.View.{draft_of}
use Rattle.lines.proofs.Additions.{fits_here, nests_on, adds_here}
use Rattle.lines.proofs.builder.Builder.add_all.Goals as goal

pub loop-x-init : goal.loop-x-init
loop-x-init c =
    let xs = c.body-x-items.result.now in
    record {
      made = refl;
      count = omega arith;
      nests = ap (λ (fs : List (Frame Source)). nested (elses fs) xs) c.requires.shallow ∙ ap (nested _) c.body-x-items.ensures ∙ c.args.t.now.well_nested;
    }

pub add-requires : goal.add-requires
add-requires c =
    let t = c.args.t.now in
    let few : length c.body-x-items.result.now ≤ 48 = omega (arith, ap length c.body-x-items.ensures, length-take t.count t.statements) in
    record { room = omega arith; fitting = fits_here _ _ _ c.loop-x-test.true (draft_of c.loop-x.self) c.loop-x.invariant.nests }

pub loop-x-preserved : goal.loop-x-preserved
loop-x-preserved c =
    let e = c.add.ensures in
    let v = c.loop-x.invariant in
    record {
      made = adds_here _ _ _ c.loop-x-test.true (draft_of c.loop-x.self) v.nests _ e.made ∙ v.made;
      count = omega arith;
      nests = nests_on _ _ _ c.loop-x-test.true (draft_of c.loop-x.self) v.nests _ e.made;
    }

pub returns : goal.returns
returns c =
    let t = c.args.t.now in
    let xs = c.body-x-items.result.now in
    let few : length xs ≤ 48 = omega (arith, ap length c.body-x-items.ensures, length-take t.count t.statements) in
    record {
      made =
          sym (at_drop_all (λ (ys : List Statement). adds_all ys (draft_of c.loop-x.self)) xs c.loop-x.x-index (omega arith)) ∙ c.loop-x.invariant.made
          ∙ ap (λ (ys : List Statement). adds_all ys (draft_of c.args.self.now)) c.body-x-items.ensures;
      count = omega arith;
    }
