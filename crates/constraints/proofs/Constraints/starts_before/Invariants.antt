use Rattle.std.proofs.Common.{ℕ, ◌+◌, ◌<◌, ◌≤◌, ◌↔◌, take}
use Rattle.std.specs.List.{AllByRecursion}
use Rattle.marks.specs.Table.{marks_of}
use Rattle.division.specs.Stretches.{Permits}
use Rattle.constraints.specs.Ranges.{InRange}
use Rattle.constraints.proofs.Constraints.starts_before.Given as goal

abbrev pub invariant-loop-mark : goal.invariant-loop-mark
invariant-loop-mark l =
    (l.range.past ≤ l.end)
    × ((a : ℕ) → InRange l.range a ↔ ((a < l.end) × (a + l.self.shortest ≤ l.end) × AllByRecursion (Permits l.self.n a l.end) (take l.mark-index (marks_of l.self.marks.now))))
