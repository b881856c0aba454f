use Rattle.std.proofs.Common.{◌≡◌, ℕ, ◌+◌, List, [], ◌∷◌, ◌++◌, reverse, length, take, refl, sym, ap, ◌∙◌, arith, rules, length-take-le}
use Rattle.std.proofs.lemmas.List.{length_push, nil_from_length}
use Rattle.transaction.specs.declared.frame.Frame.{Frame}
use Rattle.lines.specs.declared.line.Line.{Line}
use Rattle.lines.specs.declared.line.Source.{Source}
use Rattle.lines.specs.Build.{choose_for, guarded}
use Rattle.lines.proofs.Guards.{guarded_turn}
use Rattle.lines.proofs.builder.Builder.guard.Goals as goal

pub loop-frame-init : goal.loop-frame-init
loop-frame-init c =
    let b = c.args.self.now in
    let ifs : c.into_iter-frame-iterator.result.iter.rest.now ≡ take b.nest.depth b.nest.frames = search rules in
    record {
      lines = ap (λ (fs : List (Frame Source)). guarded (reverse fs) c.args.old (take b.count b.lines)) ifs;
      count = ap (λ (n : ℕ). b.count + n) (ap length ifs ∙ length-take-le b.nest.depth b.nest.frames (omega arith));
      fields = refl;
      states = refl;
      nest = refl;
      some = c.requires.0;
    }

pub push-requires : goal.push-requires
push-requires c =
    let rest = c.next.new.self.iter.rest.now in
    let frame = c.in-Some.field-0.now in
    let left : c.loop-frame.frame-iterator.iter.rest.now ≡ rest ++ (frame ∷ []) = c.in-Some.ensures.steps in
    omega (arith, ap length left, length_push rest frame)

pub loop-frame-preserved : goal.loop-frame-preserved
loop-frame-preserved c =
    let v = c.loop-frame.invariant in
    let p = c.push.ensures in
    let b = c.loop-frame.self in
    let rest = c.next.new.self.iter.rest.now in
    let frame = c.in-Some.field-0.now in
    let left : c.loop-frame.frame-iterator.iter.rest.now ≡ rest ++ (frame ∷ []) = c.in-Some.ensures.steps in
    let line = c.choose_for.ensures ∙ ap (λ (x : Source). choose_for frame x c.args.old) c.last-new.ensures in
    record {
      lines = guarded_turn _ rest frame c.args.old _ _ left (p.lines ∙ ap (λ (l : Line). take b.count b.lines ++ (l ∷ [])) line) ∙ v.lines;
      count = omega (arith, ap length left, length_push rest frame);
      fields = p.fields ∙ v.fields;
      states = p.states ∙ v.states;
      nest = p.nest ∙ v.nest;
      some = omega arith;
    }

pub returns : goal.returns
returns c =
    let v = c.loop-frame.invariant in
    let b = c.loop-frame.self in
    let none = nil_from_length c.loop-frame.frame-iterator.iter.rest.now c.in-None.ensures.steps.0 in
    record {
      lines = sym (ap (λ (fs : List (Frame Source)). guarded (reverse fs) c.args.old (take b.count b.lines)) none) ∙ v.lines;
      count = omega (arith, c.in-None.ensures.steps.0);
      fields = v.fields;
      states = v.states;
      nest = v.nest;
    }
