use Rattle.std.proofs.Common.{◌≡◌, ℕ, ◌+◌, ◌<◌, ◌⊎◌, length, get_or}
use Rattle.tally.specs.Order.{tallying}
use Rattle.search.specs.Rows.{NextRow}
use Rattle.constraints.specs.Ranges.{permitted}
use Rattle.search.proofs.Search.next_row.Given as goal

abbrev pub invariant-loop-end : goal.invariant-loop-end
invariant-loop-end g l =
    let m = g.T.Tally in
    NextRow (tallying m.zero m.added m.below l.self.tally.now (g.L.Loss.table l.self.loss.now).loss) (permitted l.self.constraints) m.fits (λ a. m.held l.initial.rows (l.src + a)) (λ a. m.held l.rows (l.dst + a))
    (λ t a. l.place + t < length l.initial.trace → get_or l.trace (l.place + t) 0 ≡ a) l.end
    × ((k : ℕ) → k < l.place → get_or l.trace k 0 ≡ get_or l.initial.trace k 0)
    × ((k : ℕ) → (k < l.dst) ⊎ (l.dst + l.self.n < k) → m.held l.rows k ≡ m.held l.initial.rows k)
