use Rattle.marks.proofs.Stand.{order_decides_standing}
use Rattle.marks.proofs.theorems.order_decides_standing.Goals as goal

pub returns : goal.returns
returns c = order_decides_standing
