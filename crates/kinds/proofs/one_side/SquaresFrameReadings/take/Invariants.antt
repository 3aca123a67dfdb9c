use Rattle.std.proofs.Common.{◌≡◌, ◌++◌, length}
use Rattle.leaves.specs.Held.{squares_readings}
use Rattle.frames.specs.Readings.{readings_in}
use Rattle.kinds.proofs.one_side.SquaresFrameReadings.take.Given as goal

abbrev pub invariant-loop-reading : goal.invariant-loop-reading
invariant-loop-reading l = squares_readings l.self ++ readings_in l.left ≡ squares_readings l.initial.self ++ readings_in l.initial.left

abbrev pub decreases-loop-reading : goal.decreases-loop-reading
decreases-loop-reading l = length l.left
