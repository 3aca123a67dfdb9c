use Rattle.std.proofs.Common.{◌*◌, ◌^◌, ◌≤◌, mul-le-mul, arith}
use Rattle.leaves.specs.Readings.{lowest, square}
use Rattle.leaves.proofs.Answered.{held_answer}
use Rattle.leaves.proofs.Mean.{found}
use Rattle.leaves.proofs.squares.methods.SquaresLoss.stretch.Goals as goal

pub overflow_sub-s : goal.overflow_sub-s
overflow_sub-s c = (found c.args.self.now c.args.a c.args.b c.from.result c.from-2.result c.if-not-has_stretch.ensures c.from.ensures c.from-2.ensures).sums

pub overflow_sub-q : goal.overflow_sub-q
overflow_sub-q c = (found c.args.self.now c.args.a c.args.b c.from.result c.from-2.result c.if-not-has_stretch.ensures c.from.ensures c.from-2.ensures).squares

pub nearest_level-v-requires : goal.nearest_level-v-requires
nearest_level-v-requires c =
    let f = found c.args.self.now c.args.a c.args.b c.from.result c.from-2.result c.if-not-has_stretch.ensures c.from.ensures c.from-2.ensures in
    rw c.from-n.ensures (omega (arith, f.rises), (f.few, f.sum_low))

pub overflow_add-result : goal.overflow_add-result
overflow_add-result c =
    let f = found c.args.self.now c.args.a c.args.b c.from.result c.from-2.result c.if-not-has_stretch.ensures c.from.ensures c.from-2.ensures in
    let n = c.from-n.result in
    let v = c.nearest_level-v.result in
    let few : n ≤ 512 = omega (arith, f.few, c.from-n.ensures) in
    let p : n * v ≤ 512 * 65536 = mul-le-mul few c.nearest_level-v.ensures.small in
    let r : n * v * v ≤ 512 * 65536 * 65536 = mul-le-mul p c.nearest_level-v.ensures.small in
    omega (arith, f.square_low, r)

pub overflow_sub-result : goal.overflow_sub-result
overflow_sub-result c =
    let f = found c.args.self.now c.args.a c.args.b c.from.result c.from-2.result c.if-not-has_stretch.ensures c.from.ensures c.from-2.ensures in
    let e = f.value c.nearest_level-v.result (rw c.from-n.ensures at c.nearest_level-v.ensures.value) in
    rw c.from-n.ensures (omega (arith, e))

pub returns : goal.returns
returns c =
    let x = c.args.self.now in
    let f = found x c.args.a c.args.b c.from.result c.from-2.result c.if-not-has_stretch.ensures c.from.ensures c.from-2.ensures in
    let e = f.value c.nearest_level-v.result (rw c.from-n.ensures at c.nearest_level-v.ensures.value) in
    held_answer square (2 ^ 32) lowest x.held.distances.items c.args.a c.args.b _ (omega arith) c.if-not-has_stretch.ensures (rw c.from-n.ensures (omega (arith, e)))
