-- The theorems of the rounds, and a sample that computes.
use Rattle.std.proofs.Common.{refl}
use Rattle.graph.proofs.Rounds.{rounds_decide_paths, led_decides_paths, closure_decides_paths}
use Rattle.graph.proofs.rounds_decide_paths.Goals as goal

pub returns : goal.returns
returns c = record { one = rounds_decide_paths; led = led_decides_paths; all = closure_decides_paths; sample = (refl, refl, refl, refl) }
