-- The words of a history on small ones; and that the law over runs can hold and can fail.
use Rattle.std.specs.Prelude.{◌≡◌, ℕ, true, false, List, [], ◌∷◌, ◌++◌, None, Ok, Err}
use Rattle.fault.specs.declared.Fault.{Fault}
use Rattle.loss.specs.Table.{Table}
use Rattle.division.specs.declared.mark.Mark.{Mark}
use Rattle.envelope.specs.declared.Step.{Step}
use Rattle.line.specs.declared.Cut.{Cut as Cut-line}
use Rattle.cuts.specs.declared.criterion.Criterion.{Criterion}
use Rattle.line.specs.Calls.{open_refusal, fresh}
use Rattle.runs.specs.declared.model.Lent.{Lent}
use Rattle.runs.specs.declared.model.Line.TheVariants.{Marking as marking, Cut as cut}
use Rattle.runs.specs.declared.model.Answer.{Answer}
use Rattle.runs.specs.declared.model.Call.TheVariants.{Mark as Lay, Unmark, Shortest, Cut, Reopen}
use Rattle.runs.specs.State.{Room}
use Rattle.runs.specs.History.{History, stands, shortest, cut_for, event}
use Rattle.runs.specs.Best.{Accepted, BestAfter}

abbrev pub AllRefused : History → Type 0
AllRefused [] = Unit {0}
AllRefused (e ∷ h) = (Accepted e.reply → ⊥) × AllRefused h

-- a mark that was laid stands, whatever is refused after it
abbrev pub LaidMarkStands : Type 0
LaidMarkStands = (later h : History) (m : Mark) (a : Answer) → AllRefused later → stands (later ++ (event (Lay m) (Ok a) ∷ h)) m ≡ true

-- and stands no more once its first reading was unmarked
abbrev pub UnmarkedStandsNoMore : Type 0
UnmarkedStandsNoMore = (h : History) (m : Mark) (a : Answer) → stands (event (Unmark m.first) (Ok a) ∷ h) m ≡ false

-- a line that was cut and reopened is not cut
abbrev pub ReopenedIsNotCut : Type 0
ReopenedIsNotCut = (h : History) (c : Criterion) (u : Lent) (a b : Answer) → cut_for (event Reopen (Ok b) ∷ event (Cut c u) (Ok a) ∷ h) ≡ None

-- a shortest stretch lasts over reopen, and over a refused one
abbrev pub ShortestLasts : Type 0
ShortestLasts = (h : History) (a b : Answer) (f : Fault) → shortest (event (Shortest 9) (Err f) ∷ event Reopen (Ok b) ∷ event (Shortest 3) (Ok a) ∷ h) ≡ 3

-- a fresh line keeps the law over no calls, whatever stands in its lists
abbrev pub FreshLineIsLawful : Type 0
FreshLineIsLawful = (t : Table) (room : Room) (bs : List ℕ) (ss : List Step) → open_refusal t ≡ None → BestAfter t room [] (record { line = marking (fresh t); boundaries = bs; steps = ss })

-- and no line that is cut does
abbrev pub FreshLineIsNotCut : Type 0
FreshLineIsNotCut = (t : Table) (room : Room) (c : Cut-line) (bs : List ℕ) (ss : List Step) → BestAfter t room [] (record { line = cut c; boundaries = bs; steps = ss }) → ⊥
