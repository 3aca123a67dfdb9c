use Rattle.std.proofs.Common.{◌^◌, ◌≤◌, arith}
use Rattle.layers.specs.Layers.{weighted}
use Rattle.layers.proofs.Told.{stretch_small, weighted_small}
use Rattle.layers.proofs.weighted.WeightedLoss.stretch.Goals as goal

pub overflow_mul-result : goal.overflow_mul-result
overflow_mul-result g c =
    let x = c.args.self.now in
    let t = g.L.Loss.table x.below in
    let low : (weighted x.weight t).ceiling ≤ 2 ^ 40 = omega (arith, c.ceiling.ensures, c.if-ceiling-gt-HEAVIEST.false) in
    let one = stretch_small t c.args.a c.args.b c.in_ok-loss.loss (g.L.Loss.sound x.below) c.in_ok-loss.ensures in
    let all = weighted_small x.weight t c.args.a c.args.b c.in_ok-loss.loss (g.L.Loss.sound x.below) low c.in_ok-loss.ensures in
    rw c.from.ensures (omega (arith, one, all))
