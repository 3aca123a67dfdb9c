use Rattle.std.proofs.Common.{◌≡◌, ℕ, ◌+◌, ◌-◌, ◌*◌, ◌^◌, ◌<◌, ◌≤◌, Bool, true, false, cond, IfSome, Some, None, Option, sym, ap, ◌∙◌, subst, arith, rules}
use Rattle.loss.specs.Table.{Table}
use Rattle.search.specs.Usable.{Usable}
use Rattle.tally.specs.Order.{Tallying, tallying}
use Rattle.search.specs.Rows.{Picked, smaller}
use Rattle.constraints.specs.Ranges.{permitted}
use Rattle.search.proofs.Picking.{skips, takes, widens, fits_of, smaller_fits}
use Rattle.search.proofs.Stretch.{lost_ok, lost_little}
use Rattle.search.proofs.Search.best_start.Goals as goal
use Rattle.search.proofs.Search.best_start.Goals.{in-Some-load+in_ok-lost-2+then-not-less, in-Some-load+in_ok-lost-2+else-not-less, in_default-load}

usable_below : (table : Table) (n end : ℕ) → end ≤ n → Usable table n → Usable table end
usable_below table n end within u = record { light = u.light; long = omega (arith, u.long) }

none_some : {V : Type 0} (o : Option V) (v : V) → o ≡ None → o ≡ Some v → ⊥
none_some o v n s = let z : ◌≡◌ {A = ℕ} 0 1 = cc in omega arith

pub returns-in_default : goal.returns-in_default
returns-in_default g c = (
  (λ b lt ok w e.
      let r = (c.starts_before-range.ensures.exact b).1 ok in
      none_some (g.T.Tally.held c.args.rows.now (c.args.base + b)) w (c.in_default.ensures b r.0 r.1) e),
  tt,
)

pub add-best-requires : goal.add-best-requires
add-best-requires g c =
    let m = g.T.Tally in
    let a : ℕ = c.in-Some.first.0 in
    let t : ℕ = c.args.end in
    let table : Table = g.L.Loss.table c.args.self.now.loss.now in
    let usable : Usable table c.args.end = usable_below table c.args.self.now.n c.args.end c.requires.within c.args.self.now.usable in
    let lt : a < t = omega (arith, c.starts_before-range.ensures.within.1, c.in-Some.ensures.1) in
    let is : c.in_ok-lost.lost ≡ table.loss a t = lost_ok table a t c.in_ok-lost.lost usable lt (sym c.in_ok-lost.was ∙ c.stretch.ensures) in
    let le : table.loss a t ≤ 2 ^ 40 * (t - a) = lost_little table a t (g.L.Loss.sound c.args.self.now.loss.now) usable lt in (
      g.met.T.Tally.wider a 512 _ (omega (arith, c.args.self.now.size)) (fits_of (m.fits a) _ _ (sym c.in-Some.ensures.2) (c.requires.small a lt)),
      omega (arith, c.args.self.now.size),
    )

pub loop-start-init : goal.loop-start-init
loop-start-init g c =
    let m = g.T.Tally in
    let V : Type 0 = g.row.T-Value.Denot in
    let tally = c.args.self.now.tally.now in
    let table : Table = g.L.Loss.table c.args.self.now.loss.now in
    let usable : Usable table c.args.end = usable_below table c.args.self.now.n c.args.end c.requires.within c.args.self.now.usable in
    let s : Tallying V = tallying m.zero m.added m.below tally table.loss in
    let can : ℕ → Type 0 = λ a. permitted c.args.self.now.constraints a c.args.end in
    let row : ℕ → Option V = λ a. m.held c.args.rows.now (c.args.base + a) in
    let a : ℕ = c.in-Some.first.0 in
    let u : V = c.in-Some.first.1 in
    let t : ℕ = c.args.end in
    let range = c.starts_before-range.ensures in
    let h = c.in-Some.ensures in
    let lt : a < t = omega (arith, range.within.1, h.1) in
    let is : c.in_ok-lost.lost ≡ table.loss a t = lost_ok table a t c.in_ok-lost.lost usable lt (sym c.in_ok-lost.was ∙ c.stretch.ensures) in
    let v-is : c.add-best.result ≡ m.added tally u a (table.loss a t) = c.add-best.ensures ∙ ap (m.added tally u a) is in
    subst (λ v. Picked s can row (a + 1) t (Some (v, a)) × m.fits t v) (sym v-is) (
      takes s can row a t g.met.T.Tally.order u ((range.exact a).0 (h.0, h.1)) h.2 None (λ b below ok w e. none_some (row b) w (h.3 b ((range.exact b).1 ok).0 below) e),
      g.met.T.Tally.grows tally a t (table.loss a t) u lt (lost_little table a t (g.L.Loss.sound c.args.self.now.loss.now) usable lt) (fits_of (m.fits a) (row a) u (sym h.2) (c.requires.small a lt)),
    )

pub add-v-requires : goal.add-v-requires
add-v-requires g c =
    let m = g.T.Tally in
    let a : ℕ = c.loop-start.start in
    let t : ℕ = c.args.end in
    let table : Table = g.L.Loss.table c.args.self.now.loss.now in
    let usable : Usable table c.args.end = usable_below table c.args.self.now.n c.args.end c.requires.within c.args.self.now.usable in
    let lt : a < t = omega (arith, c.starts_before-range.ensures.within.1, c.loop-start-test.true) in
    let is : c.in_ok-lost-2.lost ≡ table.loss a t = lost_ok table a t c.in_ok-lost-2.lost usable lt (sym c.in_ok-lost-2.was ∙ c.stretch-in-Some-load.ensures) in
    let le : table.loss a t ≤ 2 ^ 40 * (t - a) = lost_little table a t (g.L.Loss.sound c.args.self.now.loss.now) usable lt in (
      g.met.T.Tally.wider a 512 c.in-Some-load.before (omega (arith, c.args.self.now.size)) (fits_of (m.fits a) _ c.in-Some-load.before c.in-Some-load.ensures (c.requires.small a lt)),
      omega (arith, c.args.self.now.size),
    )

pub loop-start-preserved : goal.loop-start-preserved
loop-start-preserved g c =
    let m = g.T.Tally in
    let V : Type 0 = g.row.T-Value.Denot in
    let tally = c.args.self.now.tally.now in
    let table : Table = g.L.Loss.table c.args.self.now.loss.now in
    let usable : Usable table c.args.end = usable_below table c.args.self.now.n c.args.end c.requires.within c.args.self.now.usable in
    let losses : ℕ → ℕ → ℕ = table.loss in
    let s : Tallying V = tallying m.zero m.added m.below tally losses in
    let can : ℕ → Type 0 = λ a. permitted c.args.self.now.constraints a c.args.end in
    let row : ℕ → Option V = λ a. m.held c.args.rows.now (c.args.base + a) in
    let a : ℕ = c.loop-start.start in
    let t : ℕ = c.args.end in
    let lt : a < t = omega (arith, c.starts_before-range.ensures.within.1, c.loop-start-test.true) in
    let ok : can a = (c.starts_before-range.ensures.exact a).0 (omega (arith, c.loop-start.auto.start, c.in-Some.ensures.0), c.loop-start-test.true) in
    let best : V × ℕ = (c.loop-start.best, c.loop-start.latest) in
    let Good : Option (V × ℕ) → Type 0 = λ o. Picked s can row (a + 1) t o × IfSome o (λ p. m.fits t p.0) in
    let chosen : (u : V) → Some u ≡ row a → Good (smaller m.below (Some best) (m.added tally u a (losses a t)) a) =
    λ u at. (
      takes s can row a t g.met.T.Tally.order u ok (sym at) (Some best) c.loop-start.invariant.0,
      smaller_fits (m.fits t) m.below (Some best) (m.added tally u a (losses a t)) a c.loop-start.invariant.1
          (g.met.T.Tally.grows tally a t (losses a t) u lt (lost_little table a t (g.L.Loss.sound c.args.self.now.loss.now) usable lt) (fits_of (m.fits a) (row a) u at (c.requires.small a lt))),
    ) in
    elim c.match-load.branch [
      | in-Some-load+in_ok-lost-2+then-not-less w ↦ (
          let u : V = w.in-Some-load.before in
          let is : w.in_ok-lost-2.lost ≡ losses a t = lost_ok table a t w.in_ok-lost-2.lost usable lt (sym w.in_ok-lost-2.was ∙ w.stretch-in-Some-load.ensures) in
          let v-is : w.add-v.result ≡ m.added tally u a (losses a t) = w.add-v.ensures ∙ ap (m.added tally u a) is in
          let less : m.below c.loop-start.best w.add-v.result ≡ false = search (rules, w.if-not-less.true, w.less.ensures) in
          let now : Some (m.added tally u a (losses a t), a) ≡ Some (c.match-load.best, c.match-load.latest) = cc in
          subst Good (ap (λ x. cond x (Some best) (Some (m.added tally u a (losses a t), a))) (ap (m.below c.loop-start.best) (sym v-is) ∙ less) ∙ now) (chosen u w.in-Some-load.ensures))
      | in-Some-load+in_ok-lost-2+else-not-less w ↦ (
          let u : V = w.in-Some-load.before in
          let is : w.in_ok-lost-2.lost ≡ losses a t = lost_ok table a t w.in_ok-lost-2.lost usable lt (sym w.in_ok-lost-2.was ∙ w.stretch-in-Some-load.ensures) in
          let v-is : w.add-v.result ≡ m.added tally u a (losses a t) = w.add-v.ensures ∙ ap (m.added tally u a) is in
          let less : m.below c.loop-start.best w.add-v.result ≡ true = search (rules, w.if-not-less.false, w.less.ensures) in
          let now : Some best ≡ Some (c.match-load.best, c.match-load.latest) = cc in
          subst Good (ap (λ x. cond x (Some best) (Some (m.added tally u a (losses a t), a))) (ap (m.below c.loop-start.best) (sym v-is) ∙ less) ∙ now) (chosen u w.in-Some-load.ensures))
      | in_default-load w ↦
          let same : Some best ≡ Some (c.match-load.best, c.match-load.latest) = cc in
          subst Good same (skips s can row a t (Some best) c.loop-start.invariant.0 (λ _ x e. w.in_default-load.not-Some x (c.load.ensures ∙ e)), c.loop-start.invariant.1)
    ]

pub returns : goal.returns
returns g c =
    let m = g.T.Tally in
    let w = c.starts_before-range.ensures in
    let le : c.loop-start.start ≤ c.args.end = omega (arith, w.within.1, c.loop-start.auto.start-end (omega (arith, c.in-Some.ensures.1))) in (
      widens (tallying m.zero m.added m.below c.args.self.now.tally.now (g.L.Loss.table c.args.self.now.loss.now).loss) (λ a. permitted c.args.self.now.constraints a c.args.end)
          (λ a. m.held c.args.rows.now (c.args.base + a)) c.loop-start.start c.args.end c.args.end (Some (c.loop-start.best, c.loop-start.latest)) le
          (λ b ge lt ok. omega (arith, ((w.exact b).1 ok).1, c.loop-start-test.false)) c.loop-start.invariant.0,
      c.loop-start.invariant.1,
    )
