use Rattle.plans.proofs.Rightness.{sound_plans_right}
use Rattle.plans.proofs.theorem.sound_plans_are_right.Goals as goal

pub returns : goal.returns
returns c = sound_plans_right
