use Rattle.std.proofs.Common.{◌≡◌}
use Rattle.envelope.specs.Path.{path_at, losses_in}
use Rattle.envelope.proofs.best_at.Given as goal

abbrev pub invariant-loop-k : goal.invariant-loop-k
invariant-loop-k l = l.best ≡ path_at (losses_in l.losses) l.penalty l.k
