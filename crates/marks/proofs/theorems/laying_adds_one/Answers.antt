use Rattle.marks.proofs.Laying.{laid_adds_one}
use Rattle.marks.proofs.theorems.laying_adds_one.Goals as goal

pub returns : goal.returns
returns c = laid_adds_one
