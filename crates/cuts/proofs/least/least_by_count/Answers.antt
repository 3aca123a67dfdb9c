use Rattle.marks.specs.Table.{marks_of}
use Rattle.tally.specs.Entries.{loss_held}
use Rattle.std.proofs.Common.{◌+◌, ◌*◌}
use Rattle.cuts.proofs.Joined.{count_least}
use Rattle.cuts.proofs.Ready.{table_formed}
use Rattle.cuts.proofs.Settled.{answered}
use Rattle.cuts.proofs.least.least_by_count.Goals as goal

pub returns : goal.returns
returns g c =
    let n = c.args.constraints.now.n in
    answered c.least_losses.result
    (λ each k lt. count_least (g.L.Loss.table c.args.loss.now).loss (marks_of c.args.constraints.now.marks.now) c.args.constraints.now.shortest n c.requires.size.0 (table_formed c.args.constraints.now.marks.now) k
    (loss_held c.least_losses.new.numbers (2 * (n + 1) + k)) (each k lt))
    c.least_losses.ensures
