use Rattle.std.proofs.Common.{ℕ, length, refl, ap, ◌∙◌}
use Rattle.transaction.specs.Programs.{statements_of}
use Rattle.lines.specs.Build.{numbered}
use Rattle.lines.proofs.Finish.{named_long, laid_out, first_write, exactly}
use Rattle.lines.proofs.InOrder.{in_order}
use Rattle.lines.proofs.Meant.{keeps_meaning, each_makes, makes_words, states_there}
use Rattle.lines.proofs.build.lines_of.Goals as goal

pub invariant_of-result : goal.invariant_of-result
invariant_of-result c =
    let xs = statements_of c.args.t.now in
    let b = c.body-b.result in
    let b' = c.write_states.new.self in
    let N = c.named_states-named.result in
    let named = c.named_states-named.ensures in
    let w = c.write_states.ensures in
    let l = laid_out xs N named b b' c.body-b.ensures.made w.lines w.fields w.states in
    let first = first_write xs N named b b' c.body-b.ensures.made w.lines w.fields w.states in
    record {
      few = b'.room;
      lines_long = b'.lines_long;
      named_long = ap length named ∙ named_long xs;
      finals_long = b'.fields_long;
      updates_long = b'.states_long;
      reads_at = c.number_states.ensures;
      writes_at = c.number_states-2.ensures ∙ ap (λ (n : ℕ). numbered n N) first;
      room = l.room;
      reads_first = l.reads_first;
      writes_last = l.writes_last;
      plain = l.plain;
      ordered = l.ordered;
      lines_below = l.lines_below;
      finals_below = l.finals_below;
      updates_below = l.updates_below;
    }

pub returns : goal.returns
returns c =
    let xs = statements_of c.args.t.now in
    let b = c.body-b.result in
    let b' = c.write_states.new.self in
    let N = c.named_states-named.result in
    let w = c.write_states.ensures in
    let exact = exactly xs N c.named_states-named.ensures b b' c.body-b.ensures.made w.lines w.fields w.states _ refl refl refl refl refl c.number_states.ensures c.number_states-2.ensures in
    record {
      exact = exact;
      there = states_there c.args.t.now _ exact;
      order = in_order _;
      meaning = keeps_meaning c.args.t.now _ exact;
      makes = each_makes _;
      words = makes_words c.args.t.now _ exact;
      blank = b'.blank;
    }
