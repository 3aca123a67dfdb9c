use Rattle.marks.proofs.Lifting.{lifted_takes_one}
use Rattle.marks.proofs.theorems.lifting_takes_one.Goals as goal

pub returns : goal.returns
returns c = lifted_takes_one
