use Rattle.std.proofs.Common.{◌≡◌, length}
use Rattle.frames.specs.declared.size.ReadingSize.TheVariants.{Three}
use Rattle.kinds.specs.Sides.{brought, codes_fit}
use Rattle.kinds.proofs.both_sides.accepts_codes.Given as goal

abbrev pub invariant-loop-reading : goal.invariant-loop-reading
invariant-loop-reading l = codes_fit (brought Three l.left) ≡ codes_fit (brought Three l.initial.left)

abbrev pub decreases-loop-reading : goal.decreases-loop-reading
decreases-loop-reading l = length l.left
