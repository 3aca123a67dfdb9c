use Rattle.std.proofs.Common.{◌≡◌, ℕ, ◌+◌, ◌-◌, ◌*◌, ◌<◌, ◌≤◌, length, get_or, Some, None, Option, refl, ap, ◌∙◌, subst, inl, mul-le-mul_right, add-mul, one-mul, zero-add, arith}
use Rattle.tally.specs.Order.{Tallying, tallying}
use Rattle.search.specs.Starts.{exactly}
use Rattle.search.specs.Rows.{Row, kept_start}
use Rattle.constraints.specs.Ranges.{permitted}
use Rattle.search.proofs.Optimal.{weak}
use Rattle.search.proofs.Filling.{exactly_first, exactly_next, row_noted, first_fits, apart, swapped}
use Rattle.search.proofs.Tracing.{kept_start_at, kept_start_same}
use Rattle.search.proofs.Search.fill_rows.Goals as goal

-- one row of the trace more
next_place : (s w : ℕ) → (s + 1) * w ≡ s * w + w
next_place s w = add-mul s 1 w ∙ ap (λ x. s * w + x) (one-mul w)

pub loop-s-init : goal.loop-s-init
loop-s-init g c =
    let m = g.T.Tally in
    let V : Type 0 = g.row.T-Value.Denot in
    let n : ℕ = c.args.self.now.n in
    let s : Tallying V = tallying m.zero m.added m.below c.args.self.now.tally.now (g.L.Loss.table c.args.self.now.loss.now).loss in
    let row : ℕ → Option V = λ a. m.held c.first_row.new.rows (0 + a) in
    let first : row 0 ≡ Some m.zero = c.first_row.ensures.first in
    let rest : (t : ℕ) → 0 < t → t < n + 1 → row t ≡ None = λ t pos lt. ap (m.held c.first_row.new.rows) (zero-add t) ∙ c.first_row.ensures.absent t pos lt in (
      inl (refl, refl),
      exactly_first s (permitted c.args.self.now.constraints) (kept_start c.args.trace.now (n + 1)) row (n + 1) first rest,
      first_fits m.fits m.zero row (n + 1) g.met.T.Tally.least first rest,
    )

pub loop-s-preserved : goal.loop-s-preserved
loop-s-preserved g c =
    let m = g.T.Tally in
    let V : Type 0 = g.row.T-Value.Denot in
    let n : ℕ = c.args.self.now.n in
    let j : ℕ = c.loop-s.s in
    let s : Tallying V = tallying m.zero m.added m.below c.args.self.now.tally.now (g.L.Loss.table c.args.self.now.loss.now).loss in
    let can : ℕ → ℕ → Type 0 = permitted c.args.self.now.constraints in
    let before : ℕ → Option V = λ a. m.held c.loop-s.rows (c.loop-s.src + a) in
    let after : ℕ → Option V = λ a. m.held c.next_row.new.rows (c.loop-s.dst + a) in
    let start-for : ℕ → ℕ → ℕ = kept_start c.loop-s.trace (n + 1) in
    let start-for' : ℕ → ℕ → ℕ = kept_start c.next_row.new.trace (n + 1) in
    let e : j ≡ j + 1 - 1 = omega arith in
    let rows : Row s (exactly can) start-for (j + 1 - 1) before (n + 1) = subst (λ (x : ℕ). Row s (exactly can) start-for x before (n + 1)) e c.loop-s.invariant.1 in
    let order = g.met.T.Tally.order in
    let done = c.in_ok-next_row.ensures in
    let top : (j + 1) * (n + 1) ≤ c.args.stretches * (n + 1) = (let le : j + 1 ≤ c.args.stretches = omega arith in mul-le-mul_right (n + 1) le) in
    let earlier : (k x : ℕ) → k < j + 1 → x < n + 1 → start-for' k x ≡ start-for k x = λ k x lt le.
    kept_start_same c.loop-s.trace c.next_row.new.trace (n + 1) k x (λ pos.
    (let above : k - 1 + 1 ≤ j = omega arith in
    done.1 ((k - 1) * (n + 1) + x) (omega (arith, mul-le-mul_right (n + 1) above, next_place (k - 1) (n + 1))))) in (
      swapped n c.loop-s.src c.loop-s.dst c.loop-s.invariant.0,
      exactly_next s can order (weak s order (λ a b x y. g.met.T.Tally.strict c.args.self.now.tally.now x y a ((g.L.Loss.table c.args.self.now.loss.now).loss a b)))
          m.fits (j + 1) (n + 1) start-for start-for' before after (omega arith) rows
          (row_noted s can m.fits before after (λ t a. j * (n + 1) + t < length c.loop-s.trace → get_or c.next_row.new.trace (j * (n + 1) + t) 0 ≡ a) (λ t a. start-for' (j + 1) t ≡ a) (n + 1)
          (λ t a lt told. kept_start_at c.next_row.new.trace (n + 1) j t ∙ told (omega (arith, top, next_place j (n + 1), c.requires.trace, c.loop-s.auto.trace))) done.0) earlier,
      done.0.small,
    )

pub returns : goal.returns
returns g c =
    let m = g.T.Tally in
    let n : ℕ = c.args.self.now.n in
    let e : c.loop-s.s ≡ c.args.stretches = omega arith in (
      (apart n c.loop-s.src c.loop-s.dst c.loop-s.invariant.0).0,
      subst (λ (x : ℕ). Row (tallying m.zero m.added m.below c.args.self.now.tally.now (g.L.Loss.table c.args.self.now.loss.now).loss) (exactly (permitted c.args.self.now.constraints))
          (kept_start c.loop-s.trace (n + 1)) x (λ a. m.held c.loop-s.rows (c.loop-s.src + a)) (n + 1)) e c.loop-s.invariant.1,
      c.loop-s.invariant.2,
    )
