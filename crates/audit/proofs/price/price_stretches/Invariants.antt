use Rattle.audit.proofs.Along.{Along}
use Rattle.audit.proofs.price.price_stretches.Given as goal

abbrev pub invariant-loop-gap : goal.invariant-loop-gap
invariant-loop-gap g l = Along (g.L.Loss.table l.loss) l.gaps l.gap-index l.sum
