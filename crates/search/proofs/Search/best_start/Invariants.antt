use Rattle.std.proofs.Common.{◌+◌, Some}
use Rattle.tally.specs.Order.{tallying}
use Rattle.search.specs.Rows.{Picked}
use Rattle.constraints.specs.Ranges.{permitted}
use Rattle.search.proofs.Search.best_start.Given as goal

abbrev pub invariant-loop-start : goal.invariant-loop-start
invariant-loop-start g l =
    let m = g.T.Tally in
    Picked (tallying m.zero m.added m.below l.self.tally.now (g.L.Loss.table l.self.loss.now).loss) (λ a. permitted l.self.constraints a l.end) (λ a. m.held l.rows (l.base + a)) l.start l.end (Some (l.best, l.latest))
    × m.fits l.end l.best
