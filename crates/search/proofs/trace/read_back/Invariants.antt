use Rattle.std.proofs.Common.{◌≡◌, ℕ, ◌+◌, ◌-◌, ◌<◌, ◌≤◌, List, [], ◌∷◌, get_or}
use Rattle.search.specs.Starts.{Falling, boundaries_of}
use Rattle.search.specs.Rows.{Traced, row_before, start_at, part}
use Rattle.search.proofs.trace.read_back.Given as goal

abbrev pub invariant-loop-start : goal.invariant-loop-start
invariant-loop-start l =
    (l.row + l.start + 2 ≤ l.from) × (l.from ≤ l.last_row + l.n + 1)
    × ((j : ℕ) → j < l.from → get_or l.trace j 0 ≡ get_or l.initial.trace j 0)
    × ((more : List ℕ) × Falling l.start more × Traced (row_before l.width) (start_at l.initial.trace) (l.row - l.width) l.start more
    × ((ds : List ℕ) → Falling l.n ds → Traced (row_before l.width) (start_at l.initial.trace) l.last_row l.n ds → boundaries_of (l.start ∷ more) (part l.from (l.last_row + l.n + 1) l.trace) ≡ boundaries_of ds []))

abbrev pub decreases-loop-start : goal.decreases-loop-start
decreases-loop-start l = l.start
