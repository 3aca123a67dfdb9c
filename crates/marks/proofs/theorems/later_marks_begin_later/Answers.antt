use Rattle.marks.proofs.Stand.{later_marks_begin_later}
use Rattle.marks.proofs.theorems.later_marks_begin_later.Goals as goal

pub returns : goal.returns
returns c = later_marks_begin_later
