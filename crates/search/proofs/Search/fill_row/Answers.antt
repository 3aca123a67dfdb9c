use Rattle.std.proofs.Common.{◌≡◌, ℕ, ◌+◌, List, get_or, Option, sym, ap, subst, zero-add, arith}
use mathlib.Core.Path.{fun_ext}
use Rattle.tally.specs.Order.{Tallying, tallying}
use Rattle.search.specs.Starts.{any_number}
use Rattle.search.specs.Rows.{Picked, Row}
use Rattle.constraints.specs.Ranges.{permitted}
use Rattle.search.proofs.Optimal.{weak}
use Rattle.search.proofs.Filling.{any_next, fits_next}
use Rattle.search.proofs.Search.fill_row.Goals as goal

pub loop-end-preserved : goal.loop-end-preserved
loop-end-preserved g c =
    let m = g.T.Tally in
    let V : Type 0 = g.row.T-Value.Denot in
    let s : Tallying V = tallying m.zero m.added m.below c.args.self.now.tally.now (g.L.Loss.table c.args.self.now.loss.now).loss in
    let can : ℕ → ℕ → Type 0 = permitted c.args.self.now.constraints in
    let t : ℕ = c.loop-end.end in
    let row : ℕ → Option V = m.held c.loop-end.rows in
    let row' : ℕ → Option V = m.held c.write_entry.new.rows in
    let r : Option (V × ℕ) = c.in_ok-found.found in
    let shift : (λ (a : ℕ). row (0 + a)) ≡ row = fun_ext (λ a. ap row (zero-add a)) in
    let picked : Picked s (λ a. can a t) row t t r = subst (λ (x : ℕ → Option V). Picked s (λ a. can a t) x t t r) shift c.in_ok-found.ensures.0 in
    let grown = any_next s can g.met.T.Tally.order (weak s g.met.T.Tally.order (λ a b x y. g.met.T.Tally.strict c.args.self.now.tally.now x y a ((g.L.Loss.table c.args.self.now.loss.now).loss a b)))
    t c.loop-end.trace row row' r (omega arith) (omega arith) c.loop-end.invariant.0 picked c.write_entry.ensures.here c.write_entry.ensures.others in (
      subst (λ (l : List ℕ). Row s (any_number can) (λ _ x. get_or l x 0) tt row' (t + 1)) (sym c.write_entry.ensures.traced) grown,
      fits_next m.fits t row row' r c.loop-end.invariant.1 c.in_ok-found.ensures.1 c.write_entry.ensures.here c.write_entry.ensures.others,
    )
