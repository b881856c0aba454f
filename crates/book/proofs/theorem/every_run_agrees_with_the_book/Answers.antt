use Rattle.book.proofs.Runs.{every_run}
use Rattle.book.proofs.theorem.every_run_agrees_with_the_book.Goals as goal

pub returns : goal.returns
returns c = record { values = every_run; rows = every_run }
