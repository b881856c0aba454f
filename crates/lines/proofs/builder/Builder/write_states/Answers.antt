use Rattle.std.proofs.Common.{◌+◌, List, [], ◌∷◌, ◌++◌, map, take, drop, ap, ◌∙◌, arith}
use Rattle.lines.specs.declared.line.Line.{Line}
use Rattle.lines.specs.declared.line.Source.{Source}
use Rattle.lines.specs.declared.builder.Builder.{Builder}
use Rattle.lines.specs.Named.{states_from}
use Rattle.lines.specs.Build.{write_line}
use Rattle.lines.proofs.States.{listed, unlisted, all_listed}
use Rattle.lines.proofs.builder.Builder.write_states.Goals as goal
use Rattle.lines.proofs.builder.Builder.write_states.Goals.{then-is_named, else-is_named}

pub loop-s-preserved : goal.loop-s-preserved
loop-s-preserved c =
    let v = c.loop-s.invariant in
    let N = c.args.named.now in
    let s = c.loop-s.s in
    let us = c.args.self.now.states in
    let b = c.loop-s.self in
    elim c.if-is_named.branch [
      | then-is_named w ↦
          (let p = w.write_state.ensures in
          let new = ap (λ (x : Builder). take x.count x.lines) w.self-is ∙ p.lines ∙ ap (λ (l : List Source). take b.count b.lines ++ (write_line l s ∷ [])) v.3 in (
            ap (λ (l : List Line). l ++ map (write_line us) (states_from (s + 1) (drop (s + 1) N))) new ∙ listed N s (omega arith) (write_line us) _ w.if-is_named.true ∙ v.0,
            omega (arith, ap (λ (x : Builder). x.count) w.self-is, p.count),
            ap (λ (x : Builder). x.fields) w.self-is ∙ p.fields ∙ v.2,
            ap (λ (x : Builder). x.states) w.self-is ∙ p.states ∙ v.3,
          ))
      | else-is_named w ↦ (
        ap (λ (x : Builder). take x.count x.lines ++ map (write_line us) (states_from (s + 1) (drop (s + 1) N))) w.self-is ∙ unlisted N s (omega arith) (write_line us) _ w.if-is_named.false ∙ v.0,
        omega (arith, ap (λ (x : Builder). x.count) w.self-is),
        ap (λ (x : Builder). x.fields) w.self-is ∙ v.2,
        ap (λ (x : Builder). x.states) w.self-is ∙ v.3,
      )
    ]

pub returns : goal.returns
returns c =
    record { lines = all_listed c.args.named.now c.loop-s.s (omega arith) (write_line c.args.self.now.states) _ _ c.loop-s.invariant.0; fields = c.loop-s.invariant.2; states = c.loop-s.invariant.3 }
