use Rattle.std.proofs.Common.{◌≡◌, true, length}
use Rattle.frames.specs.declared.size.ReadingSize.TheVariants.{Three}
use Rattle.kinds.specs.Sides.{brought, codes_fit, together}
use Rattle.kinds.specs.Held.{both_sides}
use Rattle.kinds.proofs.both_sides.PairReadingsFrameReadings.take.Given as goal

abbrev pub invariant-loop-reading : goal.invariant-loop-reading
invariant-loop-reading l =
    (together (both_sides l.self) (brought Three l.left) ≡ together (both_sides l.initial.self) (brought Three l.initial.left))
    × (codes_fit (brought Three l.left) ≡ true)

abbrev pub decreases-loop-reading : goal.decreases-loop-reading
decreases-loop-reading l = length l.left
