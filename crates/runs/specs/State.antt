-- A line with its marks and its two lists, and what one call makes of them.
use Rattle.std.specs.Prelude.{◌≡◌, ℕ, min, List, [], length, drop, Some, None, Ok, Err, Option, Result}
use Rattle.fault.specs.declared.Fault.{Fault}
use Rattle.fault.specs.declared.Fault.TheVariants.{NoAllowedDivision, WrongState}
use Rattle.fault.specs.Refusal.{or_else, unless}
use Rattle.loss.specs.Table.{Table}
use Rattle.list.specs.declared.List.{List as Lent-list}
use Rattle.list.specs.Entries.{entries, places}
use Rattle.division.specs.declared.mark.Mark.{Mark}
use Rattle.division.specs.Winner.{Criterion as Sought, by_penalty, winner, total}
use Rattle.marks.specs.Marks.{laid, lifted, lay_refusal, lift_refusal}
use Rattle.marks.specs.declared.table.MarkTable.{MarkTable}
use Rattle.marks.specs.Table.{marks_of}
use Rattle.envelope.specs.declared.Step.{Step}
use Rattle.path.specs.Cuts.{line_path}
use Rattle.path.specs.Outcome.{path_refusal}
use Rattle.line.specs.declared.Marking.{Marking}
use Rattle.cuts.specs.Criterion.{sought}
use Rattle.line.specs.Calls.{shortest_refusal, cut_refusal, cut_winner}
use Rattle.runs.specs.declared.model.Line.{Line}
use Rattle.runs.specs.declared.model.Line.TheVariants.{Marking as marking, Cut as cut}
use Rattle.runs.specs.declared.model.Call.{Call}
use Rattle.runs.specs.declared.model.Call.TheVariants.{Mark as Lay, Unmark, Shortest, Path, Cut, Reopen}
use Rattle.runs.specs.declared.model.Answer.{Answer}
use Rattle.runs.specs.declared.model.Answer.TheVariants.{Standing, Shortest as Shortest-is, Path as PathStands, Total, Reopened}

-- the lengths of what is lent: numbers and trace, and the places of the two lists
pub record Room : Type 0 where
  pub numbers : ℕ
  pub trace : ℕ
  pub boundaries : ℕ
  pub steps : ℕ

abbrev pub room_of : ℕ → ℕ → Lent-list ℕ → Lent-list Step → Room
room_of numbers trace bs ss = record { numbers = numbers; trace = trace; boundaries = length (places bs); steps = length (places ss) }

abbrev pub room : Lent-list ℕ → Lent-list Step → List ℕ → List ℕ → Room
room bs ss numbers trace = room_of (length numbers) (length trace) bs ss

-- the line, its marks, and the entries of its two lists
pub record State : Type 0 where
  pub line : Line
  pub marks : List Mark
  pub boundaries : List ℕ
  pub steps : List Step

abbrev pub state : Line → MarkTable → Lent-list ℕ → Lent-list Step → State
state line table bs ss = record { line = line; marks = marks_of table; boundaries = entries bs; steps = entries ss }

abbrev pub readings_of : Line → ℕ
readings_of (marking l) = l.n
readings_of (cut c) = c.n

abbrev pub shortest_of : Line → ℕ
shortest_of (marking l) = l.shortest
shortest_of (cut c) = c.shortest

-- the division that wins on the line
abbrev pub winning : Sought → Table → State → Option (List ℕ)
winning c t s = winner c t.loss s.marks (shortest_of s.line) (readings_of s.line)

abbrev pub none_allowed : Option (List ℕ) → Option Fault
none_allowed None = Some NoAllowedDivision
none_allowed (Some d) = None

-- the first cause that refuses a call of a line that takes marks
abbrev pub marking_cause : Table → Room → List Mark → Marking → Call → Option Fault
marking_cause t room marks l (Lay k) = lay_refusal l.n k marks
marking_cause t room marks l (Unmark first) = lift_refusal first marks
marking_cause t room marks l (Shortest m) = shortest_refusal l.n m
marking_cause t room marks l (Path u) = or_else (path_refusal t l.n (min u.numbers room.numbers) room.steps) (none_allowed (cut_winner (by_penalty 0) t marks l))
marking_cause t room marks l (Cut c u) =
    or_else (cut_refusal (sought c) t l (min u.numbers room.numbers) (min u.trace room.trace) room.boundaries) (none_allowed (cut_winner (sought c) t marks l))
marking_cause t room marks l Reopen = Some WrongState

-- a line that is cut takes no call but reopen
abbrev pub cut_cause : Call → Option Fault
cut_cause (Lay k) = Some WrongState
cut_cause (Unmark first) = Some WrongState
cut_cause (Shortest m) = Some WrongState
cut_cause (Path u) = Some WrongState
cut_cause (Cut c u) = Some WrongState
cut_cause Reopen = None

abbrev pub cause_at : Table → Room → List Mark → Line → Call → Option Fault
cause_at t room marks (marking l) call = marking_cause t room marks l call
cause_at t room marks (cut c) call = cut_cause call

-- the first cause that refuses the call
abbrev pub cause : Table → Room → State → Call → Option Fault
cause t room s call = cause_at t room s.marks s.line call

-- the division, where there is one
abbrev pub found : Option (List ℕ) → List ℕ
found None = []
found (Some d) = d

abbrev pub winning_total : Sought → Table → State → ℕ
winning_total c t s = total c t.loss (readings_of s.line) (found (winning c t s))

-- what a call answers that is not refused
abbrev pub answer : Table → State → Call → Answer
answer t s (Lay k) = Standing (length (laid k s.marks))
answer t s (Unmark first) = Standing (length (lifted first s.marks))
answer t s (Shortest m) = Shortest-is m
answer t s (Path u) = PathStands
answer t s (Cut c u) = Total (winning_total (sought c) t s)
answer t s Reopen = Reopened

-- what it makes of the line, the marks and the lists
abbrev pub changed : Table → State → Call → State
changed t s (Lay k) = record { line = s.line; marks = laid k s.marks; boundaries = s.boundaries; steps = s.steps }
changed t s (Unmark first) = record { line = s.line; marks = lifted first s.marks; boundaries = s.boundaries; steps = s.steps }
changed t s (Shortest m) = record { line = marking (record { n = readings_of s.line; shortest = m }); marks = s.marks; boundaries = s.boundaries; steps = s.steps }
changed t s (Path u) = record { line = s.line; marks = s.marks; boundaries = s.boundaries; steps = line_path t.loss s.marks (shortest_of s.line) (readings_of s.line) }
changed t s (Cut c u) =
    record { line = cut (record { n = readings_of s.line; shortest = shortest_of s.line; total = winning_total (sought c) t s }); marks = s.marks; boundaries = found (winning (sought c) t s); steps = s.steps }
changed t s Reopen = record { line = marking (record { n = readings_of s.line; shortest = shortest_of s.line }); marks = s.marks; boundaries = s.boundaries; steps = s.steps }

-- the answer that f makes of what a part of the call gave, unless it was refused
abbrev pub answered : {X : Type 0} → (X → Answer) → Result X Fault → Result Answer Fault
answered f (Ok x) = Ok (f x)
answered f (Err e) = Err e

-- the new state, unless a cause refuses the call: then the old one
abbrev pub carried : Option Fault → State → State → State
carried None old new = new
carried (Some f) old new = old

-- what one call answers and does
pub record Performed (t : Table) (room : Room) (call : Call) (reply : Result Answer Fault) (old new : State) : Type 0 where
  pub replied : reply ≡ unless (cause t room old call) (answer t old call)
  pub after : new ≡ carried (cause t room old call) old (changed t old call)

-- the list has as many places, in the same lent slice
pub record SameSlice {X : Type 0} (old new : Lent-list X) : Type 0 where
  pub room : length (places new) ≡ length (places old)
  pub lender : new.items.ghost_name ≡ old.items.ghost_name

-- and those past the entries are as they were
pub record PastKept {X : Type 0} (old new : Lent-list X) : Type 0 where
  pub past : drop (length (entries new)) (places new) ≡ drop (length (entries new)) (places old)
  pub slice : SameSlice old new

-- divisions were looked for: a cut or a path that was carried out, or refused because no division is allowed
abbrev pub begun : Result Answer Fault → Type 0
begun (Ok a) = Unit {0}
begun (Err f) = f ≡ NoAllowedDivision

abbrev pub Searched : Call → Result Answer Fault → Type 0
Searched (Lay k) r = ⊥
Searched (Unmark first) r = ⊥
Searched (Shortest m) r = ⊥
Searched (Path u) r = begun r
Searched (Cut c u) r = begun r
Searched Reopen r = ⊥
