use Rattle.std.proofs.Common.{◌≡◌, ℕ, ◌+◌, ◌<◌, ◌⊎◌, List, length, get_or, set, Option, ap, ◌∙◌, inl, inr, arith, get_or-set_other, get_or-set_same}
use Rattle.tally.specs.Order.{Tallying, tallying}
use Rattle.search.specs.Rows.{start_of}
use Rattle.constraints.specs.Ranges.{permitted}
use Rattle.search.proofs.Filling.{entry_more}
use Rattle.search.proofs.Search.next_row.Goals as goal

pub loop-end-preserved : goal.loop-end-preserved
loop-end-preserved g c =
    let m = g.T.Tally in
    let V : Type 0 = g.row.T-Value.Denot in
    let s : Tallying V = tallying m.zero m.added m.below c.args.self.now.tally.now (g.L.Loss.table c.args.self.now.loss.now).loss in
    let t : ℕ = c.loop-end.end in
    let n : ℕ = c.args.self.now.n in
    let src : ℕ = c.args.src in
    let dst : ℕ = c.args.dst in
    let place : ℕ = c.args.place in
    let in-time : t < n + 1 = c.loop-end-test.true in
    let r : Option (V × ℕ) = c.in_ok-found.found in
    let first : List ℕ = c.args.trace.now in
    let old : List ℕ = c.loop-end.trace in
    let new : List ℕ = c.write_entry.new.trace in
    let traced : new ≡ set old (place + t) (start_of r) = c.write_entry.ensures.traced in
    let other : (k : ℕ) → (k ≡ place + t → ⊥) → get_or new k 0 ≡ get_or old k 0 = λ k ne. ap (λ (l : List ℕ). get_or l k 0) traced ∙ get_or-set_other old (place + t) k (start_of r) 0 ne in (
      entry_more s (permitted c.args.self.now.constraints) m.fits (λ a. m.held c.args.rows.now (src + a)) (λ a. m.held c.loop-end.rows (src + a))
          (λ a. m.held c.loop-end.rows (dst + a)) (λ a. m.held c.write_entry.new.rows (dst + a))
          (λ x a. place + x < length first → get_or old (place + x) 0 ≡ a) (λ x a. place + x < length first → get_or new (place + x) 0 ≡ a) t r
          c.loop-end.invariant.0 (λ a lt. c.loop-end.invariant.2 (src + a) (out a (omega arith))) c.in_ok-found.ensures.0 c.in_ok-found.ensures.1
          c.write_entry.ensures.here (λ k ne. c.write_entry.ensures.others (dst + k) (λ e. ne (omega arith)))
          (λ room. ap (λ (l : List ℕ). get_or l (place + t) 0) traced ∙ get_or-set_same old (place + t) (start_of r) 0 (omega (arith, c.loop-end.auto.trace))) (λ k a lt was room. other (place + k) (λ e. omega arith) ∙ was room),
      (λ k lt. other k (λ e. omega arith) ∙ c.loop-end.invariant.1 k lt),
      λ k away. c.write_entry.ensures.others k (λ e. elim away [ inl l ↦ omega arith | inr l ↦ omega arith ]) ∙ c.loop-end.invariant.2 k away,
    )
  where
    out : (a : ℕ) → a < c.args.self.now.n + 1 → (c.args.src + a < c.args.dst) ⊎ (c.args.dst + c.args.self.now.n < c.args.src + a)
    out a lt = elim c.requires.apart [ inl l ↦ inl (omega arith) | inr l ↦ inr (omega arith) ]

pub returns : goal.returns
returns g c =
    (record { found = λ t lt. c.loop-end.invariant.0.found t (omega arith); small = λ t lt. c.loop-end.invariant.0.small t (omega arith) }, c.loop-end.invariant.1, c.loop-end.invariant.2)
