-- A history: the calls of a line with their replies, the newest first; and what it says of the state, the marks and the shortest stretch.
use Rattle.std.specs.Prelude.{ℕ, Bool, true, false, cond, ◌&&◌, List, [], ◌∷◌, Some, None, Ok, Err, Option, Result, ◌==◌}
use Rattle.fault.specs.declared.Fault.{Fault}
use Rattle.division.specs.declared.mark.Mark.{Mark}
use Rattle.division.specs.Winner.{Criterion as Sought}
use Rattle.cuts.specs.Criterion.{sought}
use Rattle.runs.specs.declared.model.Call.{Call}
use Rattle.runs.specs.declared.model.Call.TheVariants.{Mark as Lay, Unmark, Shortest, Path, Cut, Reopen}
use Rattle.runs.specs.declared.model.Answer.{Answer}

pub record Event : Type 0 where
  pub call : Call
  pub reply : Result Answer Fault

abbrev pub History : Type 0
History = List Event

-- x, where the call was accepted
abbrev pub if_accepted : {X : Type 0} → Result Answer Fault → Option X → Option X
if_accepted (Ok a) x = x
if_accepted (Err f) x = None

abbrev pub or_before : {X : Type 0} → Option X → X → X
or_before None before = before
or_before (Some x) before = x

-- what f says of the latest accepted call of which it says anything, and `first` where there is none
abbrev pub latest : {X : Type 0} → (Call → Option X) → X → History → X
latest f first [] = first
latest f first (e ∷ h) = or_before (if_accepted e.reply (f e.call)) (latest f first h)

abbrev pub same_mark : Mark → Mark → Bool
same_mark k m = k.first == m.first && (k.last == m.last && k.boundaries == m.boundaries)

-- laying the mark k says that it stands; unmarking its first reading, that it does not
abbrev pub of_mark : Mark → Call → Option Bool
of_mark k (Lay m) = cond (same_mark k m) (Some true) None
of_mark k (Unmark first) = cond (k.first == first) (Some false) None
of_mark k (Shortest m) = None
of_mark k (Path u) = None
of_mark k (Cut c u) = None
of_mark k Reopen = None

-- the mark stands: of the accepted calls that laid it or unmarked its first reading, the latest laid it
abbrev pub stands : History → Mark → Bool
stands h k = latest (of_mark k) false h

abbrev pub of_shortest : Call → Option ℕ
of_shortest (Lay m) = None
of_shortest (Unmark first) = None
of_shortest (Shortest m) = Some m
of_shortest (Path u) = None
of_shortest (Cut c u) = None
of_shortest Reopen = None

-- the shortest stretch: that of the latest accepted shortest call, else 1
abbrev pub shortest : History → ℕ
shortest h = latest of_shortest 1 h

-- a cut puts the line into the cut state, for its penalty or count; reopen takes it back
abbrev pub of_state : Call → Option (Option Sought)
of_state (Lay m) = None
of_state (Unmark first) = None
of_state (Shortest m) = None
of_state (Path u) = None
of_state (Cut c u) = Some (Some (sought c))
of_state Reopen = Some None

-- what the line is cut for: the latest accepted cut or reopen was this cut; None where it was a reopen, or there was neither
abbrev pub cut_for : History → Option Sought
cut_for h = latest of_state None h

abbrev pub asks_path : Call → Bool
asks_path (Lay m) = false
asks_path (Unmark first) = false
asks_path (Shortest m) = false
asks_path (Path u) = true
asks_path (Cut c u) = false
asks_path Reopen = false

abbrev pub path_accepted : Call → Result Answer Fault → Bool
path_accepted c (Ok a) = asks_path c
path_accepted c (Err f) = false

-- what came before the latest accepted path
abbrev pub before_path : History → Option History
before_path [] = None
before_path (e ∷ h) = cond (path_accepted e.call e.reply) (Some h) (before_path h)

abbrev pub event : Call → Result Answer Fault → Event
event c r = record { call = c; reply = r }

-- the history h, and then these calls with their replies
abbrev pub onward : History → List Call → List (Result Answer Fault) → History
onward h [] rs = h
onward h (c ∷ cs) [] = h
onward h (c ∷ cs) (r ∷ rs) = onward (event c r ∷ h) cs rs

-- the history of a line that began fresh
abbrev pub history : List Call → List (Result Answer Fault) → History
history calls replies = onward [] calls replies
