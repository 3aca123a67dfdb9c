-- How the walk along the path goes on from a step.
use Rattle.std.specs.Prelude.{◌≡◌, ℕ, ◌+◌, ◌-◌, ◌/◌, ◌%◌, ◌<◌, ◌≤◌, min, cond, ◌⊎◌, List, [], ◌∷◌, ◌++◌, length, drop, Some, None, Ok, Err, Option, Result, nat_lt, slice_index, slice_set}
use Rattle.list.specs.declared.List.{List as Lent}
use Rattle.list.specs.Entries.{entries, places}
use Rattle.envelope.specs.declared.Step.{Step}
use Rattle.fault.specs.declared.Fault.{Fault}
use Rattle.fault.specs.declared.Fault.TheVariants.{NoAllowedDivision, ShortBuffer}
use Rattle.envelope.specs.Path.{path_at, cost_of, largest_penalty}

-- the step s holds from its penalty to just before `to`
abbrev pub Holds : (ℕ → Option ℕ) → ℕ → Step → ℕ → Type 0
Holds losses n s to = (p : ℕ) → s.penalty ≤ p → p < to → path_at losses p n ≡ Some (record { penalty = p; count = s.count; loss = s.loss })

-- the first penalty at which the smaller count j, of the loss m, is no worse than s: (m - loss of s) / (count of s - j), rounded up
abbrev pub crossing : Step → ℕ → Option ℕ → Option ℕ
crossing s j None = None
crossing s j (Some m) = Some ((m - s.loss) / (s.count - j) + min 1 ((m - s.loss) % (s.count - j)))

abbrev pub sooner : Option ℕ → Option ℕ → Option ℕ
sooner None o = o
sooner (Some a) None = Some a
sooner (Some a) (Some b) = Some (min a b)

-- q is the first penalty, if any, at which one of the counts below j is no worse than s
pub record Overtakes (losses : ℕ → Option ℕ) (s : Step) (j q : ℕ) : Type 0 where
  pub by : ℕ
  pub by_loss : ℕ
  pub by_below : by < j
  pub by_held : losses by ≡ Some by_loss
  pub no_worse : cost_of q by by_loss ≤ cost_of q s.count s.loss
  pub within : q ≤ largest_penalty
  pub before : (i m p : ℕ) → i < j → losses i ≡ Some m → p < q → cost_of p s.count s.loss < cost_of p i m

abbrev pub Overtaken : (ℕ → Option ℕ) → Step → ℕ → Option ℕ → Type 0
Overtaken losses s j None = (i : ℕ) → i < j → losses i ≡ None
Overtaken losses s j (Some q) = Overtakes losses s j q

-- the step t comes next after s, or s is the last
pub record Follows (losses : ℕ → Option ℕ) (n : ℕ) (s t : Step) : Type 0 where
  pub later : s.penalty < t.penalty
  pub within : t.penalty ≤ largest_penalty
  pub fewer : t.count < s.count
  pub until : Holds losses n s t.penalty
  pub best : path_at losses t.penalty n ≡ Some t

abbrev pub Next : (ℕ → Option ℕ) → ℕ → Step → Option Step → Type 0
Next losses n s None = (to : ℕ) → Holds losses n s to
Next losses n s (Some t) = Follows losses n s t

-- a row of losses that is fit to walk: at most 512, each small or absent
abbrev pub FitLoss : ℕ → Type 0
FitLoss x = (x ≤ largest_penalty) ⊎ (x ≡ 18446744073709551615)

pub record Fit (row : List ℕ) : Type 0 where
  pub short : length row ≤ 512
  pub small : (k : ℕ) → k < length row → FitLoss (slice_index row k)

abbrev pub Small : Option Step → Type 0
Small None = Unit {0}
Small (Some s) = (s.count < 512) × (s.loss ≤ largest_penalty)

-- the list has one more entry
pub record Added (l l' : Lent Step) (s : Step) : Type 0 where
  pub entries_are : entries l' ≡ entries l ++ s ∷ []
  pub places_are : places l' ≡ slice_set (places l) (length (entries l)) s
  pub lender : l'.items.ghost_name ≡ l.items.ghost_name

-- the list has the entries ss, and the places past them are as they were
pub record Holding (ss : List Step) (l l' : Lent Step) : Type 0 where
  pub entries_are : entries l' ≡ ss
  pub past : drop (length ss) (places l') ≡ drop (length ss) (places l)
  pub lender : l'.items.ghost_name ≡ l.items.ghost_name

-- the answer for n counts, at a list with `room` places: where room lacks, and where every count is absent
abbrev pub found : Option Step → Result Unit Fault
found None = Err NoAllowedDivision
found (Some s) = Ok tt

abbrev pub answer : ℕ → ℕ → Option Step → Result Unit Fault
answer n room best = cond (nat_lt room n) (Err ShortBuffer) (found best)
