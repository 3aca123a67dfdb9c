use Rattle.division.proofs.ByStretch.{allowed_by_stretch}
use Rattle.division.proofs.theorems.allowed_by_stretch.Goals as goal

pub returns : goal.returns
returns c = allowed_by_stretch
