use Rattle.marks.proofs.Stand.{every_table_stands}
use Rattle.marks.proofs.theorems.every_table_stands.Goals as goal

pub returns : goal.returns
returns c = every_table_stands
