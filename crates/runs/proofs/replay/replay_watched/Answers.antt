use Rattle.std.proofs.Common.{length, arith}
use Rattle.list.specs.Entries.{places}
use Rattle.line.specs.Calls.{fresh}
use Rattle.runs.specs.Run.{run_refusal}
use Rattle.runs.proofs.Turns.{given, begun, again, ended, pushed}
use Rattle.runs.proofs.replay.replay_watched.Goals as goal

pub loop-i-init : goal.loop-i-init
loop-i-init g c =
    let e = c.in_ok-begin.ensures in
    let s = given (run_refusal (g.L.Loss.table c.args.loss.now) (length c.args.calls.now) (length (places c.args.replies.now))) c.in_ok-begin.field-0 (fresh (g.L.Loss.table c.args.loss.now)) e.answer in
    begun (g.L.Loss.table c.args.loss.now) (length c.args.numbers.now) (length c.args.trace.now) c.args.calls.now (length (places c.args.replies.now)) c.begin.new.replies c.args.boundaries.now c.args.steps.now c.in_ok-begin.field-0 c.begin.new.marks
    s.0 s.1 e.slice.room e.replies.0 e.marks

pub loop-i-preserved : goal.loop-i-preserved
loop-i-preserved g c =
    let w = c.loop-i.invariant in
    again (g.L.Loss.table c.args.loss.now) (length c.args.numbers.now) (length c.args.trace.now) c.args.calls.now c.loop-i.i c.begin.new.replies c.loop-i.replies c.args.boundaries.now c.loop-i.boundaries c.args.steps.now c.loop-i.steps c.loop-i.line c.loop-i.marks w
    _ c.perform-next.result.1 (length c.loop-i.numbers) (length c.loop-i.trace) c.push.new.self c.perform-next.new.boundaries c.perform-next.new.steps c.perform-next.result.0 c.perform-next.new.marks
    c.loop-i-test.true c.loop-i.auto.numbers c.loop-i.auto.trace c.perform-next.ensures.keeps c.perform-next.ensures.boundaries c.perform-next.ensures.steps
    (pushed c.loop-i.replies c.push.new.self c.perform-next.result.1 c.push.result (omega (arith, w.fits, w.count, c.loop-i-test.true)) c.push.ensures.value c.push.ensures.cases c.push.ensures.lender)

pub returns-clause-kept : goal.returns-clause-kept
returns-clause-kept g c =
    let w = c.loop-i.invariant in
    let done = ended (g.L.Loss.table c.args.loss.now) (length c.args.numbers.now) (length c.args.trace.now) c.args.calls.now c.loop-i.i c.begin.new.replies c.loop-i.replies c.args.boundaries.now c.loop-i.boundaries c.args.steps.now c.loop-i.steps c.loop-i.line c.loop-i.marks w c.loop-i-test.false c.loop-i.auto.i-end in
    done.0
