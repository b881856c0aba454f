use Rattle.book.proofs.Runs.{each_call}
use Rattle.book.proofs.theorem.each_call_agrees_with_the_book.Goals as goal

pub returns : goal.returns
returns c = record { values = each_call; rows = each_call }
