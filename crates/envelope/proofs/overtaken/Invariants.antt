use Rattle.envelope.specs.Path.{losses_in}
use Rattle.envelope.specs.Next.{Overtaken}
use Rattle.envelope.proofs.overtaken.Given as goal

abbrev pub invariant-loop-k : goal.invariant-loop-k
invariant-loop-k l = Overtaken (losses_in l.losses) l.at l.k l.first
