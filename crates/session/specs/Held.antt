-- What a session holds, and what a line of input answers and does.
use Rattle.std.specs.Prelude.{ℕ, List, [], Some, None, Ok, Err, Option, Result}
use Rattle.fault.specs.declared.Fault.{Fault}
use Rattle.fault.specs.declared.Fault.TheVariants.{WrongState}
use Rattle.loss.specs.Table.{Table}
use Rattle.list.specs.declared.List.{List as Lent-list}
use Rattle.list.specs.Entries.{entries}
use Rattle.division.specs.declared.mark.Mark.{Mark}
use Rattle.marks.specs.declared.table.MarkTable.{MarkTable}
use Rattle.marks.specs.Table.{marks_of}
use Rattle.envelope.specs.declared.Step.{Step}
use Rattle.line.specs.Calls.{open_refusal, fresh}
use Rattle.cuts.specs.declared.criterion.Criterion.TheVariants.{Penalty, Count}
use Rattle.runs.specs.declared.model.Lent.{Lent}
use Rattle.runs.specs.declared.model.Line.{Line}
use Rattle.runs.specs.declared.model.Line.TheVariants.{Marking as marking}
use Rattle.runs.specs.declared.model.Call.{Call}
use Rattle.runs.specs.declared.model.Call.TheVariants.{Mark as Lay, Unmark, Shortest, Path, Cut, Reopen}
use Rattle.runs.specs.State.{Room, State, cause, changed}
use Rattle.frames.specs.declared.size.ReadingSize.{ReadingSize}
use Rattle.frames.specs.Asked.{Asked, readings, opening, mark, unmark, shortest, cut_by_penalty, cut_by_count, path, reopen}
use Rattle.kinds.specs.Sides.{Sides, brought, taken, after}

-- the readings, the line once it is open, its marks, and the entries of its two lists
pub record Held : Type 0 where
  pub held : Sides
  pub line : Option Line
  pub marks : List Mark
  pub boundaries : List ℕ
  pub steps : List Step

abbrev pub holding : Sides → Option Line → MarkTable → Lent-list ℕ → Lent-list Step → Held
holding held line table bs ss = record { held = held; line = line; marks = marks_of table; boundaries = entries bs; steps = entries ss }

-- all that is lent
abbrev pub all_lent : Lent
all_lent = record { numbers = 18446744073709551615; trace = 18446744073709551615 }

-- the call that a frame asks for, once the line is open
abbrev pub call_of : Asked → Option Call
call_of (readings bytes) = None
call_of opening = None
call_of (mark m) = Some (Lay m)
call_of (unmark first) = Some (Unmark first)
call_of (shortest m) = Some (Shortest m)
call_of (cut_by_penalty p) = Some (Cut (Penalty p) all_lent)
call_of (cut_by_count k) = Some (Cut (Count k) all_lent)
call_of path = Some (Path all_lent)
call_of reopen = Some Reopen

abbrev pub why_not : {X : Type 0} → Result X Fault → Option Fault
why_not (Ok x) = None
why_not (Err f) = Some f

-- the line of the session as the calls know it
abbrev pub with_line : Held → Line → State
with_line s l = record { line = l; marks = s.marks; boundaries = s.boundaries; steps = s.steps }

abbrev pub in_session : Held → State → Held
in_session s new = record { held = s.held; line = Some new.line; marks = new.marks; boundaries = new.boundaries; steps = new.steps }

-- the first cause that refuses a call: no line is open, or the line's own cause
abbrev pub call_cause : Table → Room → Held → Option Line → Call → Option Fault
call_cause t room s None call = Some WrongState
call_cause t room s (Some l) call = cause t room (with_line s l) call

abbrev pub before_opening : Option Line → Option Fault → Option Fault
before_opening None later = later
before_opening (Some l) later = Some WrongState

-- the first cause that refuses a frame; the readings stand for the loss `weighed`
abbrev pub frame_cause : (Sides → Table) → ReadingSize → Room → Held → Asked → Option Fault
frame_cause weighed size room s (readings bytes) = before_opening s.line (why_not (taken s.held (brought size bytes)))
frame_cause weighed size room s opening = before_opening s.line (open_refusal (weighed s.held))
frame_cause weighed size room s (mark m) = call_cause (weighed s.held) room s s.line (Lay m)
frame_cause weighed size room s (unmark first) = call_cause (weighed s.held) room s s.line (Unmark first)
frame_cause weighed size room s (shortest m) = call_cause (weighed s.held) room s s.line (Shortest m)
frame_cause weighed size room s (cut_by_penalty p) = call_cause (weighed s.held) room s s.line (Cut (Penalty p) all_lent)
frame_cause weighed size room s (cut_by_count k) = call_cause (weighed s.held) room s s.line (Cut (Count k) all_lent)
frame_cause weighed size room s path = call_cause (weighed s.held) room s s.line (Path all_lent)
frame_cause weighed size room s reopen = call_cause (weighed s.held) room s s.line Reopen

abbrev pub called : Table → Held → Option Line → Call → Held
called t s None call = s
called t s (Some l) call = in_session s (changed t (with_line s l) call)

-- what a frame that is not refused makes of the session
abbrev pub frame_done : (Sides → Table) → ReadingSize → Held → Asked → Held
frame_done weighed size s (readings bytes) = record { held = after s.held (brought size bytes); line = s.line; marks = s.marks; boundaries = s.boundaries; steps = s.steps }
frame_done weighed size s opening = record { held = s.held; line = Some (marking (fresh (weighed s.held))); marks = []; boundaries = s.boundaries; steps = s.steps }
frame_done weighed size s (mark m) = called (weighed s.held) s s.line (Lay m)
frame_done weighed size s (unmark first) = called (weighed s.held) s s.line (Unmark first)
frame_done weighed size s (shortest m) = called (weighed s.held) s s.line (Shortest m)
frame_done weighed size s (cut_by_penalty p) = called (weighed s.held) s s.line (Cut (Penalty p) all_lent)
frame_done weighed size s (cut_by_count k) = called (weighed s.held) s s.line (Cut (Count k) all_lent)
frame_done weighed size s path = called (weighed s.held) s s.line (Path all_lent)
frame_done weighed size s reopen = called (weighed s.held) s s.line Reopen

abbrev pub unless_refused : Option Fault → Held → Held → Held
unless_refused None new old = new
unless_refused (Some f) new old = old

-- the session after a frame
abbrev pub after_frame : (Sides → Table) → ReadingSize → Room → Held → Asked → Held
after_frame weighed size room s q = unless_refused (frame_cause weighed size room s q) (frame_done weighed size s q) s
