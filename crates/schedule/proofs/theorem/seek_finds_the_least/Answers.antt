use Rattle.schedule.proofs.Seeking.{seek_finds, first_tells}
use Rattle.schedule.proofs.theorem.seek_finds_the_least.Goals as goal

pub returns : goal.returns
returns c = record { finds = seek_finds; tells = first_tells }
