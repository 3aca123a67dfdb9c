use Rattle.std.proofs.Common.{length}
use Rattle.runs.proofs.Turns.{Underway}
use Rattle.runs.proofs.replay.replay_watched.Given as goal

abbrev pub invariant-loop-i : goal.invariant-loop-i
invariant-loop-i g l =
    Underway (g.L.Loss.table l.loss) (length l.initial.numbers) (length l.initial.trace) l.calls l.i l.initial.replies l.replies l.initial.boundaries l.boundaries l.initial.steps l.steps l.line l.marks
