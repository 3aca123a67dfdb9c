use Rattle.std.proofs.Common.{◌≡◌, ℕ, ◌≤◌, ◌+◌, ◌-◌, ◌/◌, length, refl, ap, arith}
use Rattle.std.specs.List.{sum_by}
use Rattle.std.proofs.lemmas.List.Elements.{All-from_get_or}
use Rattle.leaves.specs.Kept.{up_to}
use Rattle.leaves.proofs.Middle.{all_under, middle_best, half_below}
use Rattle.leaves.proofs.distances.methods.middle.Goals as goal

pub loop-low-init : goal.loop-low-init
loop-low-init c =
    let us = c.args.us.now in
    (omega arith, omega arith, omega (arith, all_under 65535 us (All-from_get_or (λ u. u ≤ 65535) us 0 (λ i h. omega (arith, c.type_inv.us i)))), λ k h. absurd (omega arith))

pub loop-low-preserved-then-c-n : goal.loop-low-preserved-then-c-n
loop-low-preserved-then-c-n c = (
  omega (arith, c.loop-low.invariant.0, c.loop-low-test.true),
  c.loop-low.invariant.1,
  c.loop-low.invariant.2,
  half_below c.args.us.now (c.loop-low.low + (c.loop-low.high - c.loop-low.low) / 2) c.count_up_to-c.result (length c.args.us.now) c.count_up_to-c.ensures refl c.if-c-n.true,
)

pub returns : goal.returns
returns c =
    let e : c.loop-low.high ≡ c.loop-low.low = omega (arith, c.loop-low.invariant.0, c.loop-low-test.false) in
    middle_best c.args.us.now c.loop-low.low (let s : sum_by (up_to c.loop-low.high) c.args.us.now ≡ sum_by (up_to c.loop-low.low) c.args.us.now = ap (λ (k : ℕ). sum_by (up_to k) c.args.us.now) e in omega (arith, s, c.loop-low.invariant.2)) c.loop-low.invariant.3
