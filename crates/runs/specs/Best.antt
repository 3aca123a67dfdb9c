-- The law over runs: what whoever looks at a line sees, from the calls that were made of it and their replies.
use Rattle.std.specs.Prelude.{◌≡◌, ℕ, ◌+◌, ◌-◌, ◌*◌, ◌^◌, ◌≤◌, min, Bool, true, false, ◌↔◌, List, ◌∷◌, ◌++◌, is_some, Some, None, Ok, Err, Option, Result}
use Rattle.fault.specs.declared.Fault.{Fault}
use Rattle.fault.specs.declared.Fault.TheVariants.{NoAllowedDivision}
use Rattle.loss.specs.Table.{Table}
use Rattle.list.specs.declared.List.{List as Lent-list}
use Rattle.list.specs.Entries.{entries}
use Rattle.division.specs.declared.mark.Mark.{Mark}
use Rattle.division.specs.Winner.{Criterion as Sought, by_penalty, by_count, Candidate, total, winner, Wins}
use Rattle.division.specs.Theorems.{In}
use Rattle.marks.specs.Theorems.{Standing}
use Rattle.envelope.specs.declared.Step.{Step}
use Rattle.path.specs.Cuts.{NamesEveryCut}
use Rattle.cuts.specs.Criterion.{sought}
use Rattle.runs.specs.declared.model.Line.{Line}
use Rattle.runs.specs.declared.model.Line.TheVariants.{Marking as marking, Cut as cut}
use Rattle.runs.specs.declared.model.Call.{Call}
use Rattle.runs.specs.declared.model.Call.TheVariants.{Mark as Lay, Unmark, Shortest, Path, Cut, Reopen}
use Rattle.runs.specs.declared.model.Answer.{Answer}
use Rattle.runs.specs.State.{Room}
use Rattle.runs.specs.History.{Event, History, stands, shortest, cut_for, before_path}

-- what is seen of a line: which state it is in, its boundaries, and its path
pub record View : Type 0 where
  pub line : Line
  pub boundaries : List ℕ
  pub steps : List Step

abbrev pub view : Line → Lent-list ℕ → Lent-list Step → View
view line bs ss = record { line = line; boundaries = entries bs; steps = entries ss }

abbrev pub is_cut : Line → Bool
is_cut (marking l) = false
is_cut (cut c) = true

abbrev pub total_of : Line → Option ℕ
total_of (marking l) = None
total_of (cut c) = Some c.total

-- ms are the marks that stand after h, in rising order
pub record MarksAfter (h : History) (ms : List Mark) : Type 0 where
  pub rising : Standing ms
  pub exactly : (k : Mark) → In k ms ↔ (stands h k ≡ true)

-- d is the winner by c: allowed, beaten by no allowed division, and no allowed one costs less; the line tells its total
pub record HoldsWinner (c : Sought) (t : Table) (marks : List Mark) (m : ℕ) (line : Line) (d : List ℕ) : Type 0 where
  pub is : winner c t.loss marks m t.length ≡ Some d
  pub wins : Wins c t.loss marks m t.length d
  pub least : (e : List ℕ) → Candidate c marks m t.length e → total c t.loss t.length d ≤ total c t.loss t.length e
  pub told : total_of line ≡ Some (total c t.loss t.length d)

abbrev pub InRange : ℕ → Sought → Type 0
InRange n (by_penalty p) = p ≤ 2 ^ 49
InRange n (by_count k) = k ≤ n - 1

-- how many rows of the trace a cut needs
abbrev pub rows : Sought → ℕ
rows (by_penalty p) = 1
rows (by_count k) = k + 1

-- the call is a cut or a path of a line that takes marks, its penalty or count is in range, and no buffer or list is too short
abbrev pub WellAsked : ℕ → Room → History → Call → Type 0
WellAsked n room before (Lay k) = ⊥
WellAsked n room before (Unmark first) = ⊥
WellAsked n room before (Shortest m) = ⊥
WellAsked n room before (Path u) = (cut_for before ≡ None) × (3 * (n + 1) ≤ min u.numbers room.numbers) × (n ≤ room.steps)
WellAsked n room before (Cut c u) =
    (cut_for before ≡ None) × InRange n (sought c) × (3 * (n + 1) ≤ min u.numbers room.numbers) × (rows (sought c) * (n + 1) ≤ min u.trace room.trace) × (n - 1 ≤ room.boundaries)
WellAsked n room before Reopen = ⊥

-- the divisions that the call looks among: by any penalty all that are allowed, by count those of that count
abbrev pub looked_among : Call → Sought
looked_among (Lay k) = by_penalty 0
looked_among (Unmark first) = by_penalty 0
looked_among (Shortest m) = by_penalty 0
looked_among (Path u) = by_penalty 0
looked_among (Cut c u) = sought c
looked_among Reopen = by_penalty 0

abbrev pub Accepted : Result Answer Fault → Type 0
Accepted (Ok a) = Unit {0}
Accepted (Err f) = ⊥

-- the call was accepted exactly when an allowed division existed, and refused for want of one exactly when none did
pub record Answered (t : Table) (before : History) (e : Event) : Type 0 where
  pub marks : List Mark
  pub standing : MarksAfter before marks
  pub accepted : Accepted e.reply ↔ ((d : List ℕ) × Candidate (looked_among e.call) marks (shortest before) t.length d)
  pub refused : (e.reply ≡ Err NoAllowedDivision) ↔ ((d : List ℕ) → Candidate (looked_among e.call) marks (shortest before) t.length d → ⊥)

-- THE LAW. What is seen of a line over the loss t that began fresh, was lent this room, and has this history:
pub record BestAfter (t : Table) (room : Room) (h : History) (seen : View) : Type 0 where
  -- the marks that stand
  pub marks : List Mark
  pub standing : MarksAfter h marks
  -- it is cut exactly when the latest accepted cut or reopen was a cut
  pub cut_when_called : is_cut seen.line ≡ is_some (cut_for h)
  -- and then its list holds the winner for those marks and that shortest stretch, by that cut's penalty or count
  pub holds_winner : (c : Sought) → cut_for h ≡ Some c → HoldsWinner c t marks (shortest h) seen.line seen.boundaries
  -- each cut or path that was well asked was refused exactly when no allowed division existed
  pub answered : (later : History) (e : Event) (before : History) → h ≡ later ++ (e ∷ before) → WellAsked t.length room before e.call → Answered t before e
  -- while marks and shortest stretch are those at the latest accepted path, the path names the count and the loss of the cut at every penalty
  pub path_names : (before : History) → before_path h ≡ Some before → ((k : Mark) → stands h k ≡ stands before k) → shortest h ≡ shortest before
      → NamesEveryCut t.loss marks (shortest h) t.length seen.steps
