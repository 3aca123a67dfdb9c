use Rattle.std.proofs.Common.{sym, ◌∙◌, arith}
use Rattle.leaves.specs.Readings.{lowest, distance}
use Rattle.leaves.specs.LeastLevel.{rising_distance}
use Rattle.leaves.proofs.Answered.{held_answer}
use Rattle.leaves.proofs.Parts.{loss_of_is}
use Rattle.leaves.proofs.distances.methods.DistancesLoss.stretch.Goals as goal

pub returns : goal.returns
returns c =
    let us = c.args.self.now.held.distances.items in
    let least = rw (c.distances.ensures, c.from.ensures, c.from-2.ensures) at c.middle.ensures in
    let costs = rw (c.distances.ensures, c.from.ensures, c.from-2.ensures) at c.cost_about.ensures in
    let t = loss_of_is distance rising_distance lowest us c.args.a c.args.b c.middle.result least in
    held_answer distance 65535 lowest us c.args.a c.args.b _ (omega arith) c.if-not-has_stretch.ensures (c.from-3.ensures ∙ costs ∙ sym t)
