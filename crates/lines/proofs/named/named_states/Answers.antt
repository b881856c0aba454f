use Rattle.std.proofs.Common.{ℕ, false, rules, tests}
use Rattle.transaction.specs.Programs.{statements_of}
use Rattle.lines.specs.Named.{some_names}
use Rattle.lines.proofs.Made.{made_all}
use Rattle.lines.proofs.named.named_states.Goals as goal

pub returns : goal.returns
returns c = made_all _ _ (λ (s : ℕ). some_names s (statements_of c.args.t.now)) 8 (λ i y q h k. search (rules, tests)) c.from_fn.result false c.from_fn.ensures.items
