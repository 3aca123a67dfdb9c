use Rattle.std.proofs.Common.{◌≡◌, ◌∙◌, rules}
use Rattle.division.proofs.LastDifference.{greater, later_by_length, later_by_last_difference}
use Rattle.division.proofs.check.is_later.Goals as goal

pub returns-then-d-e : goal.returns-then-d-e
returns-then-d-e c = later_by_length c.args.d.now c.args.e.now c.if-d-e.true

pub returns : goal.returns
returns c =
    let h : c.is_some_and.result ≡ greater c.last_difference.result = search rules in
    h ∙ rw c.last_difference.ensures (later_by_last_difference c.args.d.now c.args.e.now c.if-d-e.false)
