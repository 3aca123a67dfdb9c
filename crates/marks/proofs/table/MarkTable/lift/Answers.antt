use Rattle.std.proofs.Common.{◌≡◌, ◌-◌, ◌≤◌, false, length, arith, rules}
use Rattle.marks.specs.Marks.{begins_at}
use Rattle.marks.specs.Table.{marks_of}
use Rattle.marks.proofs.Order.{lift_keeps}
use Rattle.marks.proofs.Length.{length_marks}
use Rattle.marks.proofs.Search.{lifted_by}
use Rattle.marks.proofs.table.MarkTable.lift.Goals as goal

pub remove-requires : goal.remove-requires
remove-requires c =
    let l = rw c.in-Some.is at (lifted_by c.args.first (marks_of c.args.self) _ _ c.as_slice.ensures c.beginning_at.ensures) in
    omega (arith, l.2, length_marks c.args.self)

pub invariant_of-result : goal.invariant_of-result
invariant_of-result c =
    let l = rw c.in-Some.is at (lifted_by c.args.first (marks_of c.args.self) _ _ c.as_slice.ensures c.beginning_at.ensures) in
    let whole : length c.remove.new.marks ≡ 64 = omega arith in
    let few : c.args.self.len - 1 ≤ 64 = omega arith in
    record { whole = whole; few = few; rising = lift_keeps c.args.first (marks_of c.args.self) _ _ c.args.self.rising l.1 c.remove.ensures }

pub returns-in_default : goal.returns-in_default
returns-in_default c =
    let l : begins_at c.args.first (marks_of c.args.self) ≡ false = rw c.in_default.is at (lifted_by c.args.first (marks_of c.args.self) _ _ c.as_slice.ensures c.beginning_at.ensures) in
    search rules

pub returns : goal.returns
returns c =
    let l = rw c.in-Some.is at (lifted_by c.args.first (marks_of c.args.self) _ _ c.as_slice.ensures c.beginning_at.ensures) in
    search (rules, l.0, l.1)
