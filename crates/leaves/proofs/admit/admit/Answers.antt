use Rattle.std.proofs.Common.{◌≡◌, true, ◌-ℤ◌, sym, arith, w64, to_z, of_z}
use Rattle.std.proofs.lemmas.Int.{ints, to_z-of_z}
use Rattle.leaves.specs.Taking.{between}
use Rattle.leaves.proofs.Admission.{between_tells, admitted_at}
use Rattle.leaves.proofs.admit.admit.Goals as goal

fits : (c : goal.After-from-3) → between c.args.lo c.args.span c.args.x ≡ true
fits c =
    let x_Fits = c.ranges.x in
    let lo-fits = c.ranges.lo in
    sym (simp to_z-of_z at c.if-not-is_between.ensures)

pub overflow_cast-result : goal.overflow_cast-result
overflow_cast-result c = let h = between_tells c.args.lo c.args.span c.args.x (fits c) in (grind (arith, ints), grind (arith, ints))

pub returns : goal.returns
returns c =
    let far = to_z w64 (of_z w64 c.from-2.result) -ℤ to_z w64 (of_z w64 c.from-3.result) in
    admitted_at c.args.lo c.args.span c.args.held c.args.x (to_z w64 (of_z w64 far)) (fits c) (omega arith) (omega (arith, ints))
