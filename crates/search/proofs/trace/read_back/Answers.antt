use Rattle.std.proofs.Common.{◌≡◌, ℕ, ◌+◌, ◌-◌, ◌<◌, List, [], ◌∷◌, length, get_or, sym, refl, ap, ◌∙◌, subst, arith, get_or-set_other}
use Rattle.search.specs.Starts.{Falling, boundaries_of}
use Rattle.search.specs.Rows.{Traced, row_before, start_at, part}
use Rattle.search.proofs.Tracing.{traced_one, part_more, part_none, first_back, at_zero}
use Rattle.search.proofs.trace.read_back.Goals as goal

pub loop-start-init : goal.loop-start-init
loop-start-init c =
    let start-for : ℕ → ℕ → ℕ = start_at c.args.trace.now in
    let prev : ℕ → ℕ = row_before c.args.width in
    let h = c.requires.leads in
    let last : ℕ = c.args.last_row in
    let n : ℕ = c.args.n in
    let first = first_back prev start-for last n c.requires.size.0 h.0 h.1 h.2 in (
      omega (arith, first.0),
      omega arith,
      (λ j lt. refl),
      (
        first.1.0,
        first.1.1,
        first.1.2,
        λ ds f q. ap (λ (r : List ℕ). boundaries_of (start-for last n ∷ first.1.0) r) (part_none c.args.trace.now (last + n + 1))
            ∙ ap (λ (x : List ℕ). boundaries_of x []) (sym first.1.3 ∙ traced_one prev start-for last n h.0 ds h.1 f h.2 q),
      ),
    )

pub bounds-trace-row : goal.bounds-trace-row
bounds-trace-row c = omega (arith, c.saturating_sub-row.ensures, c.loop-start.invariant.0, c.loop-start.invariant.1, c.requires.room, c.loop-start.auto.trace)

-- the next start
next_is : (c : goal.After-slice_known-in-loop-start-1) → get_or c.loop-start.trace (c.saturating_sub-row.result + c.loop-start.start) 0 ≡ start_at c.args.trace.now (c.loop-start.row - c.args.width) c.loop-start.start
next_is c =
    c.loop-start.invariant.2 _ (omega (arith, c.saturating_sub-row.ensures, c.loop-start.invariant.0)) ∙ ap (λ (x : ℕ). get_or c.args.trace.now (x + c.loop-start.start) 0) c.saturating_sub-row.ensures

back : (c : goal.After-slice_known-in-loop-start-1)
    → (start_at c.args.trace.now (c.loop-start.row - c.args.width) c.loop-start.start < c.loop-start.start)
    × ((more : List ℕ) × Falling (start_at c.args.trace.now (c.loop-start.row - c.args.width) c.loop-start.start) more
    × Traced (row_before c.args.width) (start_at c.args.trace.now) (c.loop-start.row - c.args.width - c.args.width) (start_at c.args.trace.now (c.loop-start.row - c.args.width) c.loop-start.start) more
    × (c.loop-start.invariant.3.0 ≡ start_at c.args.trace.now (c.loop-start.row - c.args.width) c.loop-start.start ∷ more))
back c = first_back (row_before c.args.width) (start_at c.args.trace.now) (c.loop-start.row - c.args.width) c.loop-start.start c.loop-start-test.true c.loop-start.invariant.3.0 c.loop-start.invariant.3.1 c.loop-start.invariant.3.2

pub loop-start-smaller : goal.loop-start-smaller
loop-start-smaller c = subst (λ (x : ℕ). x < c.loop-start.start) (sym (next_is c)) (back c).0

pub loop-start-preserved : goal.loop-start-preserved
loop-start-preserved c =
    let trace : List ℕ = c.loop-start.trace in
    let old : List ℕ = c.args.trace.now in
    let a : ℕ = c.loop-start.start in
    let w : ℕ = c.args.width in
    let i : ℕ = c.loop-start.from - 1 in
    let end : ℕ = c.args.last_row + c.args.n + 1 in
    let row : ℕ = c.saturating_sub-row.result in
    let x : ℕ = get_or trace (row + a) 0 in
    let y : ℕ = start_at old (c.loop-start.row - w) a in
    let e : x ≡ y = next_is c in
    let b = back c in
    let more : List ℕ = b.1.0 in
    let lt : x < a = loop-start-smaller c in
    let room : i < length trace = omega (arith, c.loop-start.invariant.0, c.loop-start.invariant.1, c.requires.room, c.loop-start.auto.trace) in
    let short : i < end = omega (arith, c.loop-start.invariant.0, c.loop-start.invariant.1) in
    let next : i + 1 ≡ c.loop-start.from = omega (arith, c.loop-start.invariant.0) in
    let traced : Traced (row_before w) (start_at old) (row - w) x more =
    subst (λ (r : ℕ). Traced (row_before w) (start_at old) (r - w) x more) (sym c.saturating_sub-row.ensures)
    (subst (λ (z : ℕ). Traced (row_before w) (start_at old) (c.loop-start.row - w - w) z more) (sym e) b.1.2) in (
      omega (arith, c.saturating_sub-row.ensures, c.loop-start.invariant.0),
      omega (arith, c.loop-start.invariant.1),
      (λ j l. get_or-set_other trace i j a 0 (omega arith) ∙ c.loop-start.invariant.2 j (omega arith)),
      (
        more,
        subst (λ (z : ℕ). Falling z more) (sym e) b.1.1,
        traced,
        λ ds f q.
            ap (λ (r : List ℕ). boundaries_of (x ∷ more) r) (part_more trace i end a room short)
            ∙ ap (λ (z : ℕ). boundaries_of (x ∷ more) (a ∷ part z end trace)) next
            ∙ ap (λ (z : List ℕ). boundaries_of (a ∷ z) (part c.loop-start.from end trace)) (ap (λ (z : ℕ). z ∷ more) e ∙ sym b.1.3)
            ∙ c.loop-start.invariant.3.3 ds f q,
      ),
    )

pub returns : goal.returns
returns c = record {
  place = c.loop-start.invariant.1;
  boundaries = λ ds f q. sym (at_zero c.loop-start.start c.loop-start.invariant.3.0 _ c.loop-start-test.false c.loop-start.invariant.3.1) ∙ c.loop-start.invariant.3.3 ds f q;
}
