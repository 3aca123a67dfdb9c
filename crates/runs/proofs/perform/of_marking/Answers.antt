use Rattle.std.proofs.Common.{Err, refl}
use Rattle.list.specs.Entries.{entries}
use Rattle.marks.specs.Table.{marks_of}
use Rattle.runs.specs.State.{room}
use Rattle.runs.proofs.Arms.{path_call, cut_call, cut_buffers, cut_kept}
use Rattle.runs.proofs.perform.of_marking.Goals as goal

pub returns-in-Path-clause-performed : goal.returns-in-Path-clause-performed
returns-in-Path-clause-performed g c =
    let h = c.take_path-result.ensures.path in
    path_call (g.L.Loss.table c.args.loss.now) (room c.args.boundaries.now c.args.steps.now c.args.numbers.now c.args.trace.now) c.args.line (marks_of c.args.marks.now) (entries c.args.boundaries.now) c.in-Path.lent
    c.take_path-result.result c.args.steps.now c.take_path-result.new.steps c.args.numbers.now c.take_path-result.new.numbers h c.args.call c.replied-in-Path.result _ c.in-Path.is c.replied-in-Path.ensures c.take_path-result.ensures.same

pub returns-in-Ok-clause-boundaries : goal.returns-in-Ok-clause-boundaries
returns-in-Ok-clause-boundaries g c =
    cut_kept (g.L.Loss.table c.args.loss.now) (room c.args.boundaries.now c.args.steps.now c.args.numbers.now c.args.trace.now) c.args.line (marks_of c.args.marks.now) (entries c.args.steps.now) c.in-Cut.criterion c.in-Cut.lent _ _
    c.args.boundaries.now c.take_cut.new.boundaries c.args.numbers.now c.take_cut.new.numbers c.args.trace.now c.take_cut.new.trace refl refl refl c.take_cut.ensures.cut c.take_cut.ensures.lender

pub returns-in-Err-clause-performed : goal.returns-in-Err-clause-performed
returns-in-Err-clause-performed g c =
    cut_call (g.L.Loss.table c.args.loss.now) (room c.args.boundaries.now c.args.steps.now c.args.numbers.now c.args.trace.now) c.args.line (marks_of c.args.marks.now) (entries c.args.steps.now) c.in-Cut.criterion c.in-Cut.lent _ _
    c.args.boundaries.now c.take_cut.new.boundaries c.args.numbers.now c.take_cut.new.numbers c.args.trace.now c.take_cut.new.trace refl refl refl c.take_cut.ensures.cut c.args.call (Err c.in-Err.fault) (Err (c.in-Err.line, c.in-Err.fault)) c.in-Cut.is refl c.in-Err.ensures.answer

pub returns-in-Err-clause-boundaries : goal.returns-in-Err-clause-boundaries
returns-in-Err-clause-boundaries g c =
    cut_kept (g.L.Loss.table c.args.loss.now) (room c.args.boundaries.now c.args.steps.now c.args.numbers.now c.args.trace.now) c.args.line (marks_of c.args.marks.now) (entries c.args.steps.now) c.in-Cut.criterion c.in-Cut.lent _ _
    c.args.boundaries.now c.take_cut.new.boundaries c.args.numbers.now c.take_cut.new.numbers c.args.trace.now c.take_cut.new.trace refl refl refl c.take_cut.ensures.cut c.take_cut.ensures.lender

pub returns-in-Err-clause-buffers : goal.returns-in-Err-clause-buffers
returns-in-Err-clause-buffers g c =
    cut_buffers (g.L.Loss.table c.args.loss.now) (room c.args.boundaries.now c.args.steps.now c.args.numbers.now c.args.trace.now) c.args.line (marks_of c.args.marks.now) (entries c.args.steps.now) c.in-Cut.criterion c.in-Cut.lent _ _
    c.args.boundaries.now c.take_cut.new.boundaries c.args.numbers.now c.take_cut.new.numbers c.args.trace.now c.take_cut.new.trace refl refl refl c.take_cut.ensures.cut c.args.call (Err c.in-Err.fault) (Err (c.in-Err.line, c.in-Err.fault)) c.in-Cut.is refl c.in-Err.ensures.answer
