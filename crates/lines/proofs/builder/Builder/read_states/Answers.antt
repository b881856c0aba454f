use Rattle.std.proofs.Common.{ℕ, ◌+◌, List, ◌++◌, map, take, drop, set, ap, ◌∙◌, ap₂, arith}
use Rattle.lines.specs.declared.line.Line.{Line}
use Rattle.lines.specs.declared.line.Line.TheVariants.{Read}
use Rattle.lines.specs.declared.line.Source.{Source}
use Rattle.lines.specs.declared.builder.Builder.{Builder}
use Rattle.lines.specs.Named.{states_from}
use Rattle.lines.specs.Build.{firsts}
use Rattle.lines.proofs.States.{listed, unlisted, all_listed, first_named, first_unnamed, all_first}
use Rattle.lines.proofs.builder.Builder.read_states.Goals as goal
use Rattle.lines.proofs.builder.Builder.read_states.Goals.{then-is_named, else-is_named}

pub loop-s-preserved : goal.loop-s-preserved
loop-s-preserved c =
    let v = c.loop-s.invariant in
    let N = c.args.named.now in
    let s = c.loop-s.s in
    let b = c.loop-s.self in
    elim c.if-is_named.branch [
      | then-is_named w ↦
          (let p = w.read_state.ensures.pushed in
          let more = ap (λ (x : Builder). x.count) w.self-is ∙ p.count in
          let same = ap (λ (x : Builder). x.states) w.self-is ∙ p.states in
          let table = ap₂ (λ (l : List Source) (x : Source). set l s x) same (w.self2-is ∙ w.read_state.ensures.value) in (
            ap (λ (l : List Line). l ++ map Read (states_from (s + 1) (drop (s + 1) N))) (ap (λ (x : Builder). take x.count x.lines) w.self-is ∙ p.lines) ∙ listed N s (omega arith) Read _ w.if-is_named.true ∙ v.0,
            ap₂ (λ (l : List Source) (n : ℕ). take (s + 1) l ++ firsts n (drop (s + 1) N)) table more ∙ first_named N s (omega arith) b.count b.states (omega arith) w.if-is_named.true ∙ v.1,
            ap (λ (x : Builder). x.fields) w.self-is ∙ p.fields ∙ v.2,
            ap (λ (x : Builder). x.nest) w.self-is ∙ p.nest ∙ v.3,
            omega (arith, more),
          ))
      | else-is_named w ↦
          (let table = ap₂ (λ (x : Builder) (y : Source). set x.states s y) w.self-is w.self2-is in (
            ap (λ (x : Builder). take x.count x.lines ++ map Read (states_from (s + 1) (drop (s + 1) N))) w.self-is ∙ unlisted N s (omega arith) Read _ w.if-is_named.false ∙ v.0,
            ap₂ (λ (l : List Source) (x : Builder). take (s + 1) l ++ firsts x.count (drop (s + 1) N)) table w.self-is ∙ first_unnamed N s (omega arith) b.count b.states (omega arith) w.if-is_named.false ∙ v.1,
            ap (λ (x : Builder). x.fields) w.self-is ∙ v.2,
            ap (λ (x : Builder). x.nest) w.self-is ∙ v.3,
            omega (arith, ap (λ (x : Builder). x.count) w.self-is),
          ))
    ]

pub returns : goal.returns
returns c =
    let v = c.loop-s.invariant in
    let b = c.loop-s.self in
    record {
      lines = all_listed c.args.named.now c.loop-s.s (omega arith) Read _ _ v.0;
      states = all_first c.args.named.now c.loop-s.s (omega arith) b.count b.states _ (omega arith) v.1;
      fields = v.2;
      nest = v.3;
      count = omega arith;
    }
