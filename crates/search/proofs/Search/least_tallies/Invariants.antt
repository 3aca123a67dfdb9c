use Rattle.std.proofs.Common.{ℕ, ◌+◌, ◌*◌, ◌<◌, IfSome}
use Rattle.tally.specs.Order.{tallying}
use Rattle.constraints.specs.Ranges.{permitted}
use Rattle.search.specs.Starts.{exactly}
use Rattle.search.specs.Rows.{Least}
use Rattle.search.proofs.Filling.{ByTurns}
use Rattle.search.proofs.Search.least_tallies.Given as goal

abbrev pub invariant-loop-k : goal.invariant-loop-k
invariant-loop-k g l =
    let m = g.T.Tally in
    let s = tallying m.zero m.added m.below l.self.tally.now (g.L.Loss.table l.self.loss.now).loss in
    ByTurns l.self.n l.src l.dst
    × ((t : ℕ) → t < l.self.n + 1 → Least s (exactly (permitted l.self.constraints)) l.k t (m.held l.rows (l.src + t)))
    × ((a : ℕ) → a < l.self.n + 1 → IfSome (m.held l.rows (l.src + a)) (λ v. m.fits a v))
    × ((j : ℕ) → j < l.k → Least s (exactly (permitted l.self.constraints)) (j + 1) l.self.n (m.held l.rows (2 * (l.self.n + 1) + j)))
