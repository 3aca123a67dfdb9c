use Rattle.std.proofs.Common.{◌≡◌, ◌+◌, ◌≤◌, length, sym, arith, rules}
use Rattle.marks.specs.Table.{marks_of}
use Rattle.marks.proofs.Order.{allowed, lay_keeps}
use Rattle.marks.proofs.Length.{length_marks}
use Rattle.marks.proofs.Search.{laid_by}
use Rattle.marks.proofs.table.MarkTable.lay.Goals as goal

pub invariant_of-result : goal.invariant_of-result
invariant_of-result c =
    let ms = marks_of c.args.self in
    let whole : length c.insert.new.marks ≡ 64 = omega arith in
    let few : c.args.self.len + 1 ≤ 64 = omega (arith, (allowed c.args.n c.args.mark ms (sym c.in_ok-check_lay.ensures)).room, length_marks c.args.self) in
    let e = laid_by c.args.mark ms _ _ _ _ c.as_slice.ensures (sym (length_marks c.args.self)) c.first_after.ensures c.unwrap_or-at.ensures in
    record { whole = whole; few = few; rising = lay_keeps c.args.n c.args.mark ms _ _ c.args.self.rising (sym c.in_ok-check_lay.ensures) e c.insert.ensures }

pub returns : goal.returns
returns c =
    let e = laid_by c.args.mark (marks_of c.args.self) _ _ _ _ c.as_slice.ensures (sym (length_marks c.args.self)) c.first_after.ensures c.unwrap_or-at.ensures in
    search (rules, e)
