use Rattle.command.proofs.Back.{commands_stand}
use Rattle.command.proofs.theorems.commands_are_read_back.Goals as goal

pub returns : goal.returns
returns c = commands_stand
