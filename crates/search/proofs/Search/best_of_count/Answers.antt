use Rattle.std.proofs.Common.{◌≡◌, ℕ, ◌+◌, ◌-◌, ◌*◌, ◌<◌, ◌≤◌, List, sym, refl, ap, ◌∙◌, add-mul, mul-le-mul_left, one-mul, arith}
use Rattle.tally.specs.Order.{Tallying, tallying}
use Rattle.search.specs.Starts.{exactly}
use Rattle.search.specs.Rows.{Traced, kept_start, start_at, row_before, part}
use Rattle.constraints.specs.Ranges.{permitted}
use Rattle.search.proofs.Picking.{fits_of}
use Rattle.search.proofs.Tracing.{leads, found_some, by_rows}
use Rattle.search.proofs.Search.best_of_count.Goals as goal

pub load-requires : goal.load-requires
load-requires g c =
    let le : (c.in_ok-base.base + c.args.self.now.n) + 1 ≤ (c.args.self.now.n + 1) + (c.args.self.now.n + 1) = omega (arith, c.in_ok-base.ensures.0) in
    omega (arith, mul-le-mul_left g.T.Tally.stride le, c.requires.room, c.fill_rows.auto.rows)

-- the last line ends where the trace does
last_line : (s w : ℕ) → 0 < s → (s - 1) * w + w ≡ s * w
last_line s w pos =
    let e : s - 1 + 1 ≡ s = omega arith in
    let d : (s - 1 + 1) * w ≡ (s - 1) * w + w = add-mul (s - 1) 1 w ∙ ap (λ (x : ℕ). (s - 1) * w + x) (one-mul w) in
    sym d ∙ ap (λ (x : ℕ). x * w) e

pub read_back-from-requires-clause-leads : goal.read_back-from-requires-clause-leads
read_back-from-requires-clause-leads g c =
    let m = g.T.Tally in
    let s : Tallying g.row.T-Value.Denot = tallying m.zero m.added m.below c.args.self.now.tally.now (g.L.Loss.table c.args.self.now.loss.now).loss in
    let n : ℕ = c.args.self.now.n in
    let k : ℕ = c.args.stretches in
    let trace : List ℕ = c.fill_rows.new.trace in
    let can : ℕ → ℕ → Type 0 = permitted c.args.self.now.constraints in
    leads s (exactly can) g.met.T.Tally.order (λ a b x y. g.met.T.Tally.strict c.args.self.now.tally.now x y a ((g.L.Loss.table c.args.self.now.loss.now).loss a b))
    (m.fits n) k n (λ ds. Traced (λ (s : ℕ). s - 1) (kept_start trace (n + 1)) k n ds) (λ ds. Traced (row_before (n + 1)) (start_at trace) ((k - 1) * (n + 1)) n ds) (λ ds starts h. by_rows can trace (n + 1) k ((k - 1) * (n + 1)) n ds refl starts h)
    (m.held c.fill_rows.new.rows (c.in_ok-base.base + n)) (c.in_ok-base.ensures.1 n (omega arith)) c.in-Some.v c.in-Some.ensures

pub returns-in-Some : goal.returns-in-Some
returns-in-Some g c =
    let m = g.T.Tally in
    let s : Tallying g.row.T-Value.Denot = tallying m.zero m.added m.below c.args.self.now.tally.now (g.L.Loss.table c.args.self.now.loss.now).loss in
    let n : ℕ = c.args.self.now.n in
    let k : ℕ = c.args.stretches in
    let trace : List ℕ = c.fill_rows.new.trace in
    let can : ℕ → ℕ → Type 0 = permitted c.args.self.now.constraints in
    let z : (k - 1) * (n + 1) + n + 1 ≡ k * (n + 1) = omega (arith, last_line k (n + 1) c.requires.count.0) in
    found_some s (exactly can) g.met.T.Tally.order (λ a b x y. g.met.T.Tally.strict c.args.self.now.tally.now x y a ((g.L.Loss.table c.args.self.now.loss.now).loss a b))
    (m.fits n) k n (λ ds. Traced (λ (s : ℕ). s - 1) (kept_start trace (n + 1)) k n ds) (λ ds. Traced (row_before (n + 1)) (start_at trace) ((k - 1) * (n + 1)) n ds) (λ ds starts h. by_rows can trace (n + 1) k ((k - 1) * (n + 1)) n ds refl starts h)
    (m.held c.fill_rows.new.rows (c.in_ok-base.base + n)) (c.in_ok-base.ensures.1 n (omega arith)) c.in-Some.v c.in-Some.ensures
    (k * (n + 1)) c.read_back-from.new.trace c.read_back-from.result
    (fits_of (m.fits n) (m.held c.fill_rows.new.rows (c.in_ok-base.base + n)) c.in-Some.v c.in-Some.ensures (c.in_ok-base.ensures.2 n (omega arith)))
    (omega (arith, c.read_back-from.ensures.place, z))
    (λ ds f h. ap (λ (x : ℕ). part c.read_back-from.result x c.read_back-from.new.trace) (sym z) ∙ c.read_back-from.ensures.boundaries ds f h)
