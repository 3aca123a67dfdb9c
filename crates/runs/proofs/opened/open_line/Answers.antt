use Rattle.std.proofs.Common.{sym, ◌∙◌}
use Rattle.runs.proofs.Opening.{opened_line, begins_lawful}
use Rattle.runs.proofs.opened.open_line.Goals as goal

pub returns-clause-opened : goal.returns-clause-opened
returns-clause-opened g c =
    let t = g.L.Loss.table c.args.loss.now in
    let shut = sym c.is_some.ensures ∙ c.if-is_some.false in
    let e = c.in_ok-opened.ensures in
    (opened_line t c.args.line.now c.in_ok-opened.opened shut e.answer, begins_lawful t c.args.line.now c.in_ok-opened.opened shut e.answer c.open.new.marks e.marks)
