use Rattle.std.proofs.Common.{◌+◌, ◌*◌, ◌^◌, ◌<◌, ◌≤◌, lt_of_lt_of_le, arith, pow_mono, shl_lt}
use Rattle.image.proofs.reader.weighed.Goals as goal

pub returns-clause-bound : goal.returns-clause-bound
returns-clause-bound c =
    let group = c.from.result in
    let k = c.args.k in
    let low : group < 2 ^ 7 = omega arith in
    let few : 7 + 7 * k ≤ 35 = omega arith in
    let below : group * 2 ^ (7 * k) < 2 ^ 35 = lt_of_lt_of_le (shl_lt 7 (7 * k) low) (pow_mono few) in
    omega arith
