use Rattle.std.proofs.Common.{ℕ, ◌+◌, ◌-◌, ◌<◌, ◌≤◌, length}
use Rattle.std.specs.List.{sum_by}
use Rattle.leaves.specs.Kept.{up_to}
use Rattle.leaves.proofs.distances.methods.middle.Given as goal

abbrev pub invariant-loop-low : goal.invariant-loop-low
invariant-loop-low l =
    (l.low ≤ l.high) × (l.high ≤ 65535) × (length l.us ≤ sum_by (up_to l.high) l.us + sum_by (up_to l.high) l.us)
    × ((k : ℕ) → k < l.low → sum_by (up_to k) l.us + sum_by (up_to k) l.us ≤ length l.us)

abbrev pub decreases-loop-low : goal.decreases-loop-low
decreases-loop-low l = l.high - l.low
