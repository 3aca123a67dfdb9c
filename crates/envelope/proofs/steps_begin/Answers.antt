use Rattle.envelope.proofs.Begins.{counts_fall, steps_begin, only_counts_below}
use Rattle.envelope.proofs.steps_begin.Goals as goal

pub returns : goal.returns
returns c = record { fall = counts_fall; opening = steps_begin; same = only_counts_below }
