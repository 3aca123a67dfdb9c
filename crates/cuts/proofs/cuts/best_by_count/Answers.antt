use Rattle.loss.specs.Table.{Table}
use Rattle.cuts.proofs.Reached.{none_by_count, some_by_count, as_long}
use Rattle.cuts.proofs.cuts.best_by_count.Goals as goal

pub returns-in-Some : goal.returns-in-Some
returns-in-Some g c =
    let T : Table = g.L.Loss.table c.args.loss.now in
    let on = c.args.constraints.now in
    let begun = c.in_ok-check_by_count.ensures in (
      begun,
      as_long _ _ _ _ _ _ _ _ _ c.best_of_count.auto.trace
          (some_by_count T on.n on.shortest on.marks.now _ _ c.args.places c.args.count c.best_of_count.new.trace c.in_ok-total.field-0 c.in-Some.total c.in-Some.from begun c.in_ok-total.ensures c.in-Some.is),
    )

pub returns-in-None : goal.returns-in-None
returns-in-None g c =
    let T : Table = g.L.Loss.table c.args.loss.now in
    let on = c.args.constraints.now in
    let begun = c.in_ok-check_by_count.ensures in
    (begun, none_by_count T on.n on.shortest on.marks.now _ _ c.args.places c.args.count c.best_of_count.new.trace c.in_ok-total.field-0 begun c.in_ok-total.ensures c.in-None.is)
