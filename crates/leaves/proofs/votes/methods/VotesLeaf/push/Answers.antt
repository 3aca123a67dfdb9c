use Rattle.std.proofs.Common.{◌≡◌, ap, length, pos, arith, rules, w32, to_z, of_z}
use Rattle.leaves.proofs.Admission.{fitting}
use Rattle.leaves.proofs.Grown.{count_fits, tallied_more}
use Rattle.leaves.proofs.votes.methods.VotesLeaf.push.Goals as goal

pub overflow_add-row : goal.overflow_add-row
overflow_add-row c = omega (arith, count_fits c.args.self.now (length c.distances-at.result.now) c.from.result (ap length c.distances-at.ensures))

pub invariant_of-self-2 : goal.invariant_of-self-2
invariant_of-self-2 c =
    let x = c.args.self.now in
    let us = x.held.distances.items in
    let t = fitting (pos 0) 15 (length us) (to_z w32 (of_z w32 c.args.x)) c.in_ok-code.code c.in_ok-code.ensures.result in
    let rows : length x.counts ≡ 513 = search rules in
    let more = tallied_more x (length c.distances-at.result.now) c.from.result c.in_ok-code.code _ (ap length c.distances-at.ensures) c.from.ensures c.in_ok-code.ensures.ok t.0 t.1 rows in
    record { wide = more.wide; tallied = more.tallied }
