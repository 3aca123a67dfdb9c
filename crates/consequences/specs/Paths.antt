-- What the law over runs says of a path after a mark was laid and unmarked again.
use Rattle.std.specs.Prelude.{◌≡◌, false, List, ◌∷◌, Some, Ok}
use Rattle.loss.specs.Table.{Table}
use Rattle.division.specs.declared.mark.Mark.{Mark}
use Rattle.path.specs.Cuts.{NamesEveryCut}
use Rattle.runs.specs.declared.model.Answer.{Answer}
use Rattle.runs.specs.declared.model.Call.TheVariants.{Mark as Lay, Unmark}
use Rattle.runs.specs.State.{Room}
use Rattle.runs.specs.History.{History, stands, shortest, before_path, event}
use Rattle.runs.specs.Best.{View, MarksAfter, BestAfter}

-- marks and shortest stretch are those at the latest accepted path
pub record PathStands (h : History) : Type 0 where
  pub before : History
  pub latest : before_path h ≡ Some before
  pub marks : (k : Mark) → stands h k ≡ stands before k
  pub shortest : shortest h ≡ shortest before

-- a mark that did not stand, laid and unmarked again, leaves a path that names every cut; w is seen between the two calls
abbrev pub LaidAndUnmarkedAgain : Type 0
LaidAndUnmarkedAgain =
    (t : Table) (room : Room) (h : History) (m : Mark) (a b : Answer) (w v : View) → PathStands h → stands h m ≡ false → BestAfter t room (event (Lay m) (Ok a) ∷ h) w → BestAfter t room (event (Unmark m.first) (Ok b) ∷ event (Lay m) (Ok a) ∷ h) v
    → (ms : List Mark) → MarksAfter h ms → NamesEveryCut t.loss ms (shortest h) t.length v.steps
