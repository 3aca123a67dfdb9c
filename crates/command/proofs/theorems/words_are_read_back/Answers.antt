use Rattle.command.proofs.Spaced.{words_stand}
use Rattle.command.proofs.Printed.{numbers_stand}
use Rattle.command.proofs.theorems.words_are_read_back.Goals as goal

pub returns : goal.returns
returns c = record { words = words_stand; numbers = numbers_stand }
