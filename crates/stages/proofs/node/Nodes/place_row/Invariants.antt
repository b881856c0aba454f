use Rattle.std.proofs.Common.{nat_eq}
use Rattle.stages.specs.Filling.{row_of, node_at, placed}
use Rattle.stages.proofs.Tables.{Filled}
use Rattle.stages.proofs.node.Nodes.place_row.Given as goal

abbrev pub invariant-loop-n : goal.invariant-loop-n
invariant-loop-n l = Filled (λ n. nat_eq (row_of l.self n) l.row) (λ n. placed l.self l.limits.lines l.limits.atoms l.start n (node_at l.self n)) l.initial.stage_of l.stage_of l.n
