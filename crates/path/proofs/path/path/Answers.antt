use Rattle.std.proofs.Common.{length, arith}
use Rattle.loss.specs.Table.{Table}
use Rattle.marks.specs.Table.{marks_of}
use Rattle.path.proofs.Least.{row_fits}
use Rattle.path.proofs.Settled.{begun, written}
use Rattle.path.proofs.path.path.Goals as goal

pub steps-requires : goal.steps-requires
steps-requires g c =
    let t : Table = g.L.Loss.table c.args.loss.now in
    let on = c.args.constraints.now in
    let b = begun t on.n (length c.args.numbers.now) _ c.in_ok-check_path.ensures in
    row_fits t (g.L.Loss.sound c.args.loss.now) b.usable.light (marks_of on.marks.now) on.shortest on.n b.short b.usable.long c.least_by_count.new.numbers
    (omega (arith, b.numbers_room, c.least_by_count.auto.numbers)) c.in_ok-least_by_count.ensures

pub returns-clause-path : goal.returns-clause-path
returns-clause-path g c =
    let t : Table = g.L.Loss.table c.args.loss.now in
    let on = c.args.constraints.now in
    let go = rw c.capacity.ensures at c.in_ok-check_path.ensures in
    written t (marks_of on.marks.now) on.shortest on.n c.args.numbers.now c.least_by_count.new.numbers c.args.list.now c.steps.new.list c.steps.result
    go c.least_by_count.auto.numbers c.in_ok-least_by_count.ensures c.steps.ensures.value c.steps.ensures.cases
