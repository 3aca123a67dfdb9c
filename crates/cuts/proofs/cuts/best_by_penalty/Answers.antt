use Rattle.std.proofs.Common.{ℕ, subst}
use Rattle.loss.specs.Table.{Table}
use Rattle.cuts.proofs.Reached.{none_by_penalty, some_by_penalty, as_long, FoundByPenalty}
use Rattle.cuts.proofs.cuts.best_by_penalty.Goals as goal

pub returns-in-Some : goal.returns-in-Some
returns-in-Some g c =
    let T : Table = g.L.Loss.table c.args.loss.now in
    let on = c.args.constraints.now in
    let begun = c.in_ok-check_by_penalty.ensures in
    let said : ℕ → Type 0 = λ x. FoundByPenalty T on.n on.shortest on.marks.now x c.best_of_all.new.trace c.in_ok-total.field-0 in (
      begun,
      as_long _ _ _ _ _ _ _ _ _ c.best_of_all.auto.trace
          (some_by_penalty T on.n on.shortest on.marks.now _ _ c.args.places c.args.penalty c.best_of_all.new.trace c.in_ok-total.field-0 c.in-Some.total c.in-Some.field-0-0-1 c.in-Some.from begun (subst said c.new.ensures c.in_ok-total.ensures) c.in-Some.is),
    )

pub returns-in-None : goal.returns-in-None
returns-in-None g c =
    let T : Table = g.L.Loss.table c.args.loss.now in
    let on = c.args.constraints.now in
    let begun = c.in_ok-check_by_penalty.ensures in
    let said : ℕ → Type 0 = λ x. FoundByPenalty T on.n on.shortest on.marks.now x c.best_of_all.new.trace c.in_ok-total.field-0 in
    (begun, none_by_penalty T on.n on.shortest on.marks.now _ _ c.args.places c.args.penalty c.best_of_all.new.trace c.in_ok-total.field-0 begun (subst said c.new.ensures c.in_ok-total.ensures) c.in-None.is)
