use Rattle.std.proofs.Common.{ℕ, rules, tests}
use Rattle.lines.specs.declared.line.Line.TheVariants.{Read}
use Rattle.lines.specs.declared.line.Source.TheVariants.{Field as Incoming, Constant as Fixed}
use Rattle.lines.proofs.Blank.{all_blank}
use Rattle.lines.proofs.Made.{made_all}
use Rattle.lines.proofs.builder.Builder.new.Goals as goal

pub invariant_of-result-clause-blank : goal.invariant_of-result-clause-blank
invariant_of-result-clause-blank c n _ = all_blank (Read 0) 208 n

pub returns-clause-fields : goal.returns-clause-fields
returns-clause-fields c = made_all _ _ (λ (i : ℕ). Incoming i) 16 (λ i y q h k. search (rules, tests)) c.from_fn.result (Fixed 0) c.from_fn.ensures.items
