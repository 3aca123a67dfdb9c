-- What the law over runs says of two cuts for the same.
use Rattle.std.specs.Prelude.{◌≡◌, ◌∷◌, Some, Ok}
use Rattle.loss.specs.Table.{Table}
use Rattle.division.specs.declared.mark.Mark.{Mark}
use Rattle.division.specs.Winner.{Criterion as Sought}
use Rattle.cuts.specs.declared.criterion.Criterion.{Criterion}
use Rattle.cuts.specs.Criterion.{sought}
use Rattle.runs.specs.declared.model.Lent.{Lent}
use Rattle.runs.specs.declared.model.Answer.{Answer}
use Rattle.runs.specs.declared.model.Call.TheVariants.{Cut, Reopen}
use Rattle.runs.specs.State.{Room}
use Rattle.runs.specs.History.{History, stands, shortest, cut_for, event}
use Rattle.runs.specs.Best.{View, total_of, BestAfter}

-- the same boundaries, and the same total told
pub record SameDivision (v v' : View) : Type 0 where
  pub boundaries : v.boundaries ≡ v'.boundaries
  pub total : total_of v.line ≡ total_of v'.line

-- two lines over the same loss that are cut for the same, under the same marks and shortest stretch, hold the same division,
-- whatever calls led there and whatever room was lent
abbrev pub SameCutSameDivision : Type 0
SameCutSameDivision =
    (t : Table) (room room' : Room) (h h' : History) (v v' : View) (c : Sought) → BestAfter t room h v → BestAfter t room' h' v' → ((k : Mark) → stands h k ≡ stands h' k) → shortest h ≡ shortest h' → cut_for h ≡ Some c → cut_for h' ≡ Some c
    → SameDivision v v'

-- a line that is reopened and cut for the same again holds the same division as before
abbrev pub ReopenedAndCutAgain : Type 0
ReopenedAndCutAgain =
    (t : Table) (room : Room) (h : History) (c : Criterion) (u : Lent) (a b : Answer) (v v' : View) → BestAfter t room h v → cut_for h ≡ Some (sought c) → BestAfter t room (event (Cut c u) (Ok a) ∷ event Reopen (Ok b) ∷ h) v' → SameDivision v v'
