use Rattle.std.proofs.Common.{◌≡◌, ℕ, ◌+◌, ◌<◌, Some, None}
use Rattle.search.proofs.Search.first_row.Given as goal

abbrev pub invariant-loop-end : goal.invariant-loop-end
invariant-loop-end g l =
    let m = g.T.Tally in
    (m.held l.rows 0 ≡ Some m.zero) × ((t : ℕ) → 0 < t → t < l.end + 1 → m.held l.rows t ≡ None)
