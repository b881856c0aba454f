-- The input is cut where its first line ends.
use Rattle.std.proofs.Common.{rules}
use Rattle.text.proofs.FirstLine.{first_line}
use Rattle.text.proofs.input.cut_line.Goals as goal

pub returns-in-Some : goal.returns-in-Some
returns-in-Some c =
    let cut = c.split_at.ensures in
    first_line _ _ c.split_at.result.1.now c.in-Some.rest.now c.line_end.result cut.by_index.0 cut.front_len (search rules) c.requires c.line_end.ensures.before c.line_end.ensures.found

pub returns-in-None : goal.returns-in-None
returns-in-None c =
    let cut = c.split_at.ensures in
    first_line _ _ c.split_at.result.1.now c.split_at.result.1.now c.line_end.result cut.by_index.0 cut.front_len (search rules) c.requires c.line_end.ensures.before c.line_end.ensures.found
