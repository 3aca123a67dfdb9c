use Rattle.std.proofs.Common.{◌≡◌, ℕ, ◌+◌, List, get_or, sym, refl, ap, ◌∙◌, arith}
use Rattle.tally.specs.Order.{Tallying, tallying}
use Rattle.search.specs.Starts.{any_number}
use Rattle.search.specs.Rows.{Traced, start_at, row_before, part}
use Rattle.constraints.specs.Ranges.{permitted}
use Rattle.search.proofs.Picking.{fits_of}
use Rattle.search.proofs.Tracing.{leads, found_some, one_row}
use Rattle.search.proofs.Search.best_of_all.Goals as goal

pub read_back-from-requires-clause-leads : goal.read_back-from-requires-clause-leads
read_back-from-requires-clause-leads g c =
    let m = g.T.Tally in
    let s : Tallying g.row.T-Value.Denot = tallying m.zero m.added m.below c.args.self.now.tally.now (g.L.Loss.table c.args.self.now.loss.now).loss in
    let n : ℕ = c.args.self.now.n in
    let trace : List ℕ = c.fill_row.new.trace in
    leads s (any_number (permitted c.args.self.now.constraints)) g.met.T.Tally.order (λ a b x y. g.met.T.Tally.strict c.args.self.now.tally.now x y a ((g.L.Loss.table c.args.self.now.loss.now).loss a b))
    (m.fits n) tt n (λ ds. Traced (λ (x : Unit {0}). x) (λ _ x. get_or trace x 0) tt n ds) (λ ds. Traced (row_before 0) (start_at trace) 0 n ds) (λ ds _ h. one_row trace 0 n ds refl h)
    (m.held c.fill_row.new.rows n) (c.in_ok-fill_row.ensures.0 n (omega arith)) c.in-Some.v c.in-Some.ensures

pub returns-in-Some : goal.returns-in-Some
returns-in-Some g c =
    let m = g.T.Tally in
    let s : Tallying g.row.T-Value.Denot = tallying m.zero m.added m.below c.args.self.now.tally.now (g.L.Loss.table c.args.self.now.loss.now).loss in
    let n : ℕ = c.args.self.now.n in
    let trace : List ℕ = c.fill_row.new.trace in
    let z : 0 + n + 1 ≡ n + 1 = omega arith in
    found_some s (any_number (permitted c.args.self.now.constraints)) g.met.T.Tally.order (λ a b x y. g.met.T.Tally.strict c.args.self.now.tally.now x y a ((g.L.Loss.table c.args.self.now.loss.now).loss a b))
    (m.fits n) tt n (λ ds. Traced (λ (x : Unit {0}). x) (λ _ x. get_or trace x 0) tt n ds) (λ ds. Traced (row_before 0) (start_at trace) 0 n ds) (λ ds _ h. one_row trace 0 n ds refl h)
    (m.held c.fill_row.new.rows n) (c.in_ok-fill_row.ensures.0 n (omega arith)) c.in-Some.v c.in-Some.ensures
    (n + 1) c.read_back-from.new.trace c.read_back-from.result
    (fits_of (m.fits n) (m.held c.fill_row.new.rows n) c.in-Some.v c.in-Some.ensures (c.in_ok-fill_row.ensures.1 n (omega arith)))
    (omega (arith, c.read_back-from.ensures.place))
    (λ ds f h. ap (λ (x : ℕ). part c.read_back-from.result x c.read_back-from.new.trace) (sym z) ∙ c.read_back-from.ensures.boundaries ds f h)
