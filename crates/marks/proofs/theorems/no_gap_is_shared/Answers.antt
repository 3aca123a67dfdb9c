use Rattle.marks.proofs.Stand.{no_gap_shared}
use Rattle.marks.proofs.theorems.no_gap_is_shared.Goals as goal

pub returns : goal.returns
returns c = no_gap_shared
