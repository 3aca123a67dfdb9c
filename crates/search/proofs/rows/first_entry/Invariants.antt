use Rattle.std.proofs.Common.{◌≡◌, ℕ, ◌+◌, ◌<◌, ◌≤◌, None}
use Rattle.search.proofs.rows.first_entry.Given as goal

abbrev pub invariant-loop-start : goal.invariant-loop-start
invariant-loop-start g l = (b : ℕ) → l.fn.range.first ≤ b → b < l.start → g.T.Tally.held l.rows (l.base + b) ≡ None
