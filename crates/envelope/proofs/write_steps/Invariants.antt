use Rattle.envelope.proofs.Written.{Walked}
use Rattle.envelope.proofs.write_steps.Given as goal

abbrev pub invariant-loop-next : goal.invariant-loop-next
invariant-loop-next l = Walked l.losses l.initial.list l.list l.at

abbrev pub decreases-loop-next : goal.decreases-loop-next
decreases-loop-next l = l.at.count
