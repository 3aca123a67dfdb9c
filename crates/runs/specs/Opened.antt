-- A line that may not be open yet.
use Rattle.std.specs.Prelude.{◌≡◌, ℕ, [], Some, None, Err, Option, Result}
use Rattle.fault.specs.declared.Fault.{Fault}
use Rattle.fault.specs.declared.Fault.TheVariants.{WrongState}
use Rattle.loss.specs.Table.{Table}
use Rattle.list.specs.declared.List.{List as Lent-list}
use Rattle.marks.specs.declared.table.MarkTable.{MarkTable}
use Rattle.envelope.specs.declared.Step.{Step}
use Rattle.line.specs.Calls.{open_refusal}
use Rattle.runs.specs.declared.model.Line.{Line}
use Rattle.runs.specs.declared.model.Call.{Call}
use Rattle.runs.specs.declared.model.Answer.{Answer}
use Rattle.runs.specs.State.{Room, State, state, Performed}
use Rattle.runs.specs.History.{Event}
use Rattle.runs.specs.Kept.{Kept, Keeps}

-- why the line cannot be opened: it is open, or no line can be opened over the loss
abbrev pub opening_refusal : Option Line → Table → Option Fault
opening_refusal None t = open_refusal t
opening_refusal (Some line) t = Some WrongState

-- its state, once it is open
abbrev pub opened_state : Option Line → MarkTable → Lent-list ℕ → Lent-list Step → Option State
opened_state None table bs ss = None
opened_state (Some line) table bs ss = Some (state line table bs ss)

-- what one call answers and does: before the line is open it is refused
abbrev pub OpenedPerformed : Table → Room → Call → Result Answer Fault → Option State → Option State → Type 0
OpenedPerformed t room call reply None new = (reply ≡ Err WrongState) × (new ≡ None)
OpenedPerformed t room call reply (Some old) None = ⊥
OpenedPerformed t room call reply (Some old) (Some new) = Performed t room call reply old new

-- the law over runs holds of an open line, whatever calls were made of it, and goes on holding
abbrev pub OpenedKeeps : Table → Room → Event → Option State → Option State → Type 0
OpenedKeeps t room e None new = new ≡ None
OpenedKeeps t room e (Some old) None = ⊥
OpenedKeeps t room e (Some old) (Some new) = Keeps t room e old new

-- it begins to hold when the line is opened
abbrev pub BeginsLawful : Table → Option State → Type 0
BeginsLawful t None = ⊥
BeginsLawful t (Some s) = (room : Room) → Kept t room [] s
