use Rattle.marks.proofs.Sharing.{laid_when_layable}
use Rattle.marks.proofs.theorems.laid_when_layable.Goals as goal

pub returns : goal.returns
returns c = laid_when_layable
