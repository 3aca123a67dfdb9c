use Rattle.marks.proofs.Lifting.{lifted_when_one_begins}
use Rattle.marks.proofs.theorems.lifted_when_one_begins.Goals as goal

pub returns : goal.returns
returns c = lifted_when_one_begins
