use Rattle.std.proofs.Common.{replicate, None, refl}
use Rattle.codelets.proofs.Turns.{get_or_all}
use Rattle.plans.proofs.Empty.{unowned, apart, placed_empty}
use Rattle.plans.proofs.idle.one_stage.Goals as goal

pub invariant_of-codelets : goal.invariant_of-codelets
invariant_of-codelets c = record { owned = unowned c.args.lines.now c.requires (replicate 208 None) (λ n. get_or_all 208 n None); alone = apart c.args.lines.now c.requires }

pub returns : goal.returns
returns c = record { lines = refl; placed = placed_empty c.args.lines.now c.requires _ _ _ refl (λ n. get_or_all 208 n None) (λ n. get_or_all 208 n 0) refl }
