use Rattle.std.proofs.Common.{◌≡◌, ◌+◌, leb, drop}
use Rattle.division.specs.Division.{each_stretch, long_enough}
use Rattle.division.proofs.check.is_long_enough.Given as goal

abbrev pub invariant-loop-gap : goal.invariant-loop-gap
invariant-loop-gap l = long_enough l.m l.n l.gaps ≡ each_stretch (λ a b. leb (a + l.m) b) l.n l.start (drop l.gap-index l.gaps)
