use Rattle.std.proofs.Common.{None, arith}
use lib.ListN.{get_or-replicate}
use Rattle.machine.proofs.held.Held.clear.Goals as goal

pub returns-clause-fresh : goal.returns-clause-fresh
returns-clause-fresh c plus minus ran plan =
    record {
      room = record { places = omega (arith, plan.few_stages); carried = omega (arith, plan.few_stages, c.args.self.now.rows_long); counts = omega (arith, plan.few_stages) };
      places = λ q h. get_or-replicate 33 q None None (omega (arith, plan.few_stages));
      counts = λ q h. get_or-replicate 33 q 0 0 (omega (arith, plan.few_stages));
      words = λ s h. get_or-replicate 8 s 0 0 (omega (arith, plan.transaction.few_states));
    }
