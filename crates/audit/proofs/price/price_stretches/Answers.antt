use Rattle.audit.proofs.Along.{next_within}
use Rattle.audit.proofs.price.price_stretches.Goals as goal

pub add_stretch-requires-clause-within : goal.add_stretch-requires-clause-within
add_stretch-requires-clause-within g c =
    next_within (g.L.Loss.table c.args.loss.now) c.args.gaps.now c.loop-gap.gap-index c.loop-gap.sum c.loop-gap.invariant c.loop-gap-test.true
