use Rattle.std.proofs.Common.{arith}
use Rattle.layers.proofs.Told.{stretch_small}
use Rattle.layers.proofs.pair.PairLoss.stretch.Goals as goal

pub overflow_add-result : goal.overflow_add-result
overflow_add-result g c =
    let x = c.args.self.now in
    let p = stretch_small (g.P.Loss.table x.port) c.args.a c.args.b _ (g.P.Loss.sound x.port) c.in_ok-stretch.ensures in
    let s = stretch_small (g.S.Loss.table x.starboard) c.args.a c.args.b _ (g.S.Loss.sound x.starboard) c.in_ok-stretch-2.ensures in
    omega (arith, p, s)
