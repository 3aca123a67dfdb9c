use Rattle.std.proofs.Common.{◌*◌, ◌≤◌, ap, mul-le-mul, length, arith}
use Rattle.leaves.proofs.Mean.{at}
use Rattle.leaves.proofs.squares.methods.SquaresLeaf.push.Goals as goal

pub overflow_add-self : goal.overflow_add-self
overflow_add-self c =
    let x = c.args.self.now in
    omega (arith, (at x (length c.distances-at.result.now) (length x.held.distances.items) (ap length c.distances-at.ensures) (omega arith)).distances_low, x.held.few)

pub overflow_add-self-2 : goal.overflow_add-self-2
overflow_add-self-2 c =
    let x = c.args.self.now in
    let v : c.from-distance.result ≤ 65535 = omega arith in
    let u : c.from-distance.result * c.from-distance.result ≤ 65535 * 65535 = mul-le-mul v v in
    omega (arith, (at x (length c.distances-at.result.now) (length x.held.distances.items) (ap length c.distances-at.ensures) (omega arith)).squares_low, x.held.few)
