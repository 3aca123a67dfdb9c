-- What a line keeps from call to call so that the law goes on holding.
use Rattle.std.specs.Prelude.{◌≡◌, List, ◌∷◌, Some, None}
use Rattle.loss.specs.Table.{Table}
use Rattle.division.specs.declared.mark.Mark.{Mark}
use Rattle.path.specs.Cuts.{NamesEveryCut}
use Rattle.line.specs.Calls.{open_refusal}
use Rattle.runs.specs.State.{Room, State, readings_of, shortest_of}
use Rattle.runs.specs.History.{Event, History, shortest, before_path}
use Rattle.runs.specs.Best.{View, MarksAfter, BestAfter}

abbrev pub seen : State → View
seen s = record { line = s.line; boundaries = s.boundaries; steps = s.steps }

pub record Kept (t : Table) (room : Room) (h : History) (s : State) : Type 0 where
  -- a line could be opened over the loss
  pub opened : open_refusal t ≡ None
  pub law : BestAfter t room h (seen s)
  -- what stands in the line is what the history says
  pub listed : law.marks ≡ s.marks
  pub readings : readings_of s.line ≡ t.length
  pub short : shortest_of s.line ≡ shortest h
  -- the path is the one of the moment at which it was taken
  pub path : (before : History) → before_path h ≡ Some before → (ms : List Mark) → MarksAfter before ms → NamesEveryCut t.loss ms (shortest before) t.length s.steps

-- whatever the history that a line kept the law over, with this event it keeps it
abbrev pub Keeps : Table → Room → Event → State → State → Type 0
Keeps t room e old new = (h : History) → Kept t room h old → Kept t room (e ∷ h) new
