use Rattle.std.proofs.Common.{ℕ, ◌<◌, get_or, IfSome}
use Rattle.tally.specs.Order.{tallying}
use Rattle.search.specs.Starts.{any_number}
use Rattle.search.specs.Rows.{Row}
use Rattle.constraints.specs.Ranges.{permitted}
use Rattle.search.proofs.Search.fill_row.Given as goal

abbrev pub invariant-loop-end : goal.invariant-loop-end
invariant-loop-end g l =
    let m = g.T.Tally in
    Row (tallying m.zero m.added m.below l.self.tally.now (g.L.Loss.table l.self.loss.now).loss) (any_number (permitted l.self.constraints)) (λ _ t. get_or l.trace t 0) tt (m.held l.rows) l.end
    × ((a : ℕ) → a < l.end → IfSome (m.held l.rows a) (λ v. m.fits a v))
