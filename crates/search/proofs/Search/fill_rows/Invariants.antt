use Rattle.std.proofs.Common.{ℕ, ◌+◌, ◌<◌, IfSome}
use Rattle.tally.specs.Order.{tallying}
use Rattle.search.specs.Starts.{exactly}
use Rattle.search.specs.Rows.{Row, kept_start}
use Rattle.constraints.specs.Ranges.{permitted}
use Rattle.search.proofs.Filling.{ByTurns}
use Rattle.search.proofs.Search.fill_rows.Given as goal

abbrev pub invariant-loop-s : goal.invariant-loop-s
invariant-loop-s g l =
    let m = g.T.Tally in
    ByTurns l.self.n l.src l.dst
    × Row (tallying m.zero m.added m.below l.self.tally.now (g.L.Loss.table l.self.loss.now).loss) (exactly (permitted l.self.constraints)) (kept_start l.trace (l.self.n + 1)) l.s (λ a. m.held l.rows (l.src + a)) (l.self.n + 1)
    × ((a : ℕ) → a < l.self.n + 1 → IfSome (m.held l.rows (l.src + a)) (λ v. m.fits a v))
