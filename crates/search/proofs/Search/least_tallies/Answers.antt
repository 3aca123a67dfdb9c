use Rattle.std.proofs.Common.{◌≡◌, ℕ, ◌+◌, ◌-◌, ◌*◌, ◌<◌, IfSome, Some, None, Option, sym, refl, ap, ◌∙◌, subst, inl, inr, zero-add, arith}
use native.Mathlib.Decide.{dec_lt}
use Rattle.tally.specs.Order.{Tallying, tallying}
use Rattle.constraints.specs.Ranges.{permitted}
use Rattle.search.specs.Starts.{exactly}
use Rattle.search.specs.Rows.{Traced, Least}
use Rattle.search.proofs.Optimal.{weak}
use Rattle.search.proofs.Filling.{exactly_first, forgotten, least_next, first_fits, apart, swapped}
use Rattle.search.proofs.Search.least_tallies.Goals as goal

pub loop-k-init : goal.loop-k-init
loop-k-init g c =
    let m = g.T.Tally in
    let V : Type 0 = g.row.T-Value.Denot in
    let n : ℕ = c.args.self.now.n in
    let s : Tallying V = tallying m.zero m.added m.below c.args.self.now.tally.now (g.L.Loss.table c.args.self.now.loss.now).loss in
    let can : ℕ → ℕ → Type 0 = permitted c.args.self.now.constraints in
    let row : ℕ → Option V = λ a. m.held c.first_row.new.rows (0 + a) in
    let first : row 0 ≡ Some m.zero = c.first_row.ensures.first in
    let rest : (t : ℕ) → 0 < t → t < n + 1 → row t ≡ None = λ t pos lt. ap (m.held c.first_row.new.rows) (zero-add t) ∙ c.first_row.ensures.absent t pos lt in (
      inl (refl, refl),
      (λ t lt. forgotten s (exactly can) (Traced (λ (x : ℕ). x - 1) (λ _ _. 0) 0 t) 0 t (row t) (exactly_first s can (λ _ _. 0) row (n + 1) first rest t lt)),
      first_fits m.fits m.zero row (n + 1) g.met.T.Tally.least first rest,
      λ j lt. absurd (omega arith),
    )

pub loop-k-preserved : goal.loop-k-preserved
loop-k-preserved g c =
    let m = g.T.Tally in
    let V : Type 0 = g.row.T-Value.Denot in
    let n : ℕ = c.args.self.now.n in
    let k : ℕ = c.loop-k.k in
    let src : ℕ = c.loop-k.src in
    let dst : ℕ = c.loop-k.dst in
    let s : Tallying V = tallying m.zero m.added m.below c.args.self.now.tally.now (g.L.Loss.table c.args.self.now.loss.now).loss in
    let can : ℕ → ℕ → Type 0 = permitted c.args.self.now.constraints in
    let sides = apart n src dst c.loop-k.invariant.0 in
    let order = g.met.T.Tally.order in
    let before : ℕ → Option V = λ a. m.held c.loop-k.rows (src + a) in
    let after : ℕ → Option V = λ a. m.held c.next_row.new.rows (dst + a) in
    let last : ℕ → Option V = m.held c.put.new.rows in
    let done = c.in_ok-next_row.ensures in
    let e : k ≡ k + 1 - 1 = omega arith in
    let rows : (t : ℕ) → t < n + 1 → Least s (exactly can) (k + 1 - 1) t (before t) = λ t lt. subst (λ (x : ℕ). Least s (exactly can) x t (before t)) e (c.loop-k.invariant.1 t lt) in
    let filled : (t : ℕ) → t < n + 1 → Least s (exactly can) (k + 1) t (after t) =
    least_next s can order (weak s order (λ a b x y. g.met.T.Tally.strict c.args.self.now.tally.now x y a ((g.L.Loss.table c.args.self.now.loss.now).loss a b))) m.fits (k + 1) (n + 1) before after _ (omega arith) rows done.0 in
    let kept : (a : ℕ) → a < n + 1 → last (dst + a) ≡ after a = λ a lt. c.put.ensures.others (dst + a) (λ q. omega (arith, sides.1)) in (
      swapped n src dst c.loop-k.invariant.0,
      (λ t lt. subst (λ (o : Option V). Least s (exactly can) (k + 1) t o) (sym (kept t lt)) (filled t lt)),
      (λ a lt. subst (λ (o : Option V). IfSome o (λ v. m.fits a v)) (sym (kept a lt)) (done.0.small a lt)),
      λ j lt. elim (dec_lt j k) [
        | yes l ↦ subst (λ (o : Option V). Least s (exactly can) (j + 1) n o)
            (sym (c.put.ensures.others (2 * (n + 1) + j) (λ q. omega arith) ∙ done.2 (2 * (n + 1) + j) (inr (omega (arith, sides.1))))) (c.loop-k.invariant.3 j l)
        | no ge ↦ (let q : j ≡ k = omega arith in
            let new : last (2 * (n + 1) + k) ≡ after n = c.put.ensures.here ∙ c.load-least.ensures in
            subst (λ (x : ℕ). Least s (exactly can) (x + 1) n (last (2 * (n + 1) + x))) (sym q) (subst (λ (o : Option V). Least s (exactly can) (k + 1) n o) (sym new) (filled n (omega arith))))
      ],
    )
