use Rattle.std.proofs.Common.{rules}
use Rattle.runs.specs.State.{room}
use Rattle.session.proofs.Called.{done_as}
use Rattle.session.proofs.state.Session.call.Goals as goal

pub returns : goal.returns
returns g c =
    let d = done_as (g.R.Loss.table c.args.self.now.readings) (room c.args.boundaries.now c.args.steps.now c.args.numbers.now c.args.trace.now) c.args.call c.call_line.result (g.R.FrameReadings.held c.args.self.now.readings)
    c.args.self.now.marks c.call_line.new.marks c.args.boundaries.now c.call_line.new.boundaries c.args.steps.now c.call_line.new.steps
    (g.R.FrameReadings.weighed (g.R.FrameReadings.held c.args.self.now.readings)) (g.met.R.FrameReadings.tied c.args.self.now.readings) c.args.self.now.line c.call_line.new.line c.call_line.ensures.performed c.call_line.ensures.shut in
    record { refusal = d.replied c.in_ok-call_line.field-0 c.in_ok-call_line.was; after = d.after; boundaries = c.call_line.ensures.boundaries; steps = c.call_line.ensures.steps }

pub returns-in_err-call_line : goal.returns-in_err-call_line
returns-in_err-call_line g c =
    let d = done_as (g.R.Loss.table c.args.self.now.readings) (room c.args.boundaries.now c.args.steps.now c.args.numbers.now c.args.trace.now) c.args.call c.call_line.result (g.R.FrameReadings.held c.args.self.now.readings)
    c.args.self.now.marks c.call_line.new.marks c.args.boundaries.now c.call_line.new.boundaries c.args.steps.now c.call_line.new.steps
    (g.R.FrameReadings.weighed (g.R.FrameReadings.held c.args.self.now.readings)) (g.met.R.FrameReadings.tied c.args.self.now.readings) c.args.self.now.line c.call_line.new.line c.call_line.ensures.performed c.call_line.ensures.shut in
    let r = d.refused c.in_err-call_line.field-0.0 c.in_err-call_line.was in
    record { refusal = search (rules, r); after = d.after; boundaries = c.call_line.ensures.boundaries; steps = c.call_line.ensures.steps }
