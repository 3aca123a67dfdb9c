use Rattle.std.proofs.Common.{◌≡◌, pos, ◌∙◌, arith}
use Rattle.leaves.specs.Readings.{differs, loss_of}
use Rattle.leaves.specs.Held.{votes_readings}
use Rattle.leaves.proofs.Answered.{held_answer}
use Rattle.leaves.proofs.Most.{most_is}
use Rattle.leaves.proofs.votes.methods.VotesLoss.stretch.Goals as goal

pub overflow_sub-b-2 : goal.overflow_sub-b-2
overflow_sub-b-2 c =
    let t = most_is c.args.self.now c.args.a c.args.b c.from.result c.from-2.result c.if-not-has_stretch.ensures c.from.ensures c.from-2.ensures in
    rw c.most_votes-most.ensures t.0

pub returns : goal.returns
returns c =
    let t = most_is c.args.self.now c.args.a c.args.b c.from.result c.from-2.result c.if-not-has_stretch.ensures c.from.ensures c.from-2.ensures in
    let e : c.from-3.result ≡ loss_of differs (votes_readings c.args.self.now) c.args.a c.args.b = c.from-3.ensures ∙ rw c.most_votes-most.ensures t.1 in
    held_answer differs 1 (pos 0) c.args.self.now.held.distances.items c.args.a c.args.b c.from-3.result (omega arith) c.if-not-has_stretch.ensures e
