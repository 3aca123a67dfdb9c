-- Rows of the search: entry t holds the least tally of starts to t, and a trace keeps the last start of each.
use Rattle.std.specs.Prelude.{◌≡◌, ℕ, ◌+◌, ◌-◌, ◌*◌, ◌<◌, ◌≤◌, Bool, true, false, cond, List, [], ◌∷◌, IfSome, Some, None, Option, ◌==◌, ◌≢◌, slice_index, slice_range}
use Rattle.tally.specs.Order.{Tallying}
use Rattle.search.specs.Starts.{Stages, Starts, tally_of, Best, WinningStarts, boundaries_of}

-- What the search over the starts below `limit` picks from a row: nothing where none has an entry, else the least, the latest of equals.
abbrev pub Picked : {V : Type 0} → Tallying V → (ℕ → Type 0) → (ℕ → Option V) → ℕ → ℕ → Option (V × ℕ) → Type 0
Picked {V} m can row limit t None = (b : ℕ) → b < limit → can b → (w : V) → row b ≢ Some w
Picked {V} m can row limit t (Some (v, a)) =
    (a < limit) × can a × ((u : V) × (row a ≡ Some u) × (v ≡ m.step a t u))
    × ((b : ℕ) → b < limit → can b → (w : V) → row b ≡ Some w → m.below (m.step b t w) v ≡ false)
    × ((b : ℕ) → a < b → b < limit → can b → (w : V) → row b ≡ Some w → m.below v (m.step b t w) ≡ true)

-- each entry below `limit`, where there is one, is what stretches to it can come to
abbrev pub AllFit : {V : Type 0} → (ℕ → V → Type 0) → (ℕ → Option V) → ℕ → Type 0
AllFit fits row limit = (a : ℕ) → a < limit → IfSome (row a) (λ v. fits a v)

-- the first entry of a row at a place from `first` up to, and without, `past`
abbrev pub FirstEntry : {V : Type 0} → (ℕ → Option V) → ℕ → ℕ → Option (ℕ × V) → Type 0
FirstEntry row first past None = (b : ℕ) → first ≤ b → b < past → row b ≡ None
FirstEntry row first past (Some (a, v)) = (first ≤ a) × (a < past) × (row a ≡ Some v) × ((b : ℕ) → first ≤ b → b < a → row b ≡ None)

-- the smaller of the best so far and (v, a), which is later
abbrev pub smaller : {V : Type 0} → (V → V → Bool) → Option (V × ℕ) → V → ℕ → Option (V × ℕ)
smaller below None v a = Some (v, a)
smaller below (Some p) v a = cond (below p.0 v) (Some p) (Some (v, a))

-- the tally and the last start of what was picked
abbrev pub value_of : {V : Type 0} → Option (V × ℕ) → Option V
value_of None = None
value_of (Some p) = Some p.0

abbrev pub start_of : {V : Type 0} → Option (V × ℕ) → ℕ
start_of None = 0
start_of (Some p) = p.1

-- The entry at t is what the best starts to t tally, starts that `kept` holds of, or there are no starts to t.
abbrev pub Entry : {V S : Type 0} → Tallying V → Stages S → (List ℕ → Type 0) → S → ℕ → Option V → Type 0
Entry m n kept s t None = (ds : List ℕ) → Starts n s t ds → ⊥
Entry m n kept s t (Some v) = (ds : List ℕ) × Best m n s t ds × (v ≡ tally_of m t ds) × kept ds

-- the same with nothing kept
abbrev pub Least : {V S : Type 0} → Tallying V → Stages S → S → ℕ → Option V → Type 0
Least m n s t o = Entry m n (λ _. Unit {0}) s t o

-- What was picked for t is the last of the best starts to t and what they tally, or there are none.
abbrev pub Extended : {V S : Type 0} → Tallying V → Stages S → (ℕ → List ℕ → Type 0) → S → ℕ → Option (V × ℕ) → Type 0
Extended m n kept s t None = (ds : List ℕ) → Starts n s t ds → ⊥
Extended m n kept s t (Some (v, a)) = (ds : List ℕ) × Best m n s t (a ∷ ds) × (v ≡ tally_of m t (a ∷ ds)) × kept a ds

-- A row from the row before it: each entry below `limit` is what the search picks there, with what is noted of it.
pub record NextRow {V : Type 0} (m : Tallying V) (can : ℕ → ℕ → Type 0) (fits : ℕ → V → Type 0) (before after : ℕ → Option V) (noted : ℕ → ℕ → Type 0) (limit : ℕ) : Type 0 where
  pub found : (t : ℕ) → t < limit → (o : Option (V × ℕ)) × Picked m (λ a. can a t) before t t o × (after t ≡ value_of o) × noted t (start_of o)
  pub small : (t : ℕ) → t < limit → IfSome (after t) (fits t)

-- The trace leads back from t through the starts: `start-for s t` is the start kept for t at the stage s.
abbrev pub Traced : {S : Type 0} → (S → S) → (S → ℕ → ℕ) → S → ℕ → List ℕ → Type 0
Traced prev start-for s t [] = Unit {0}
Traced prev start-for s t (a ∷ more) = (start-for s t ≡ a) × Traced prev start-for (prev s) a more

-- each entry of the row below `limit` is right, and its starts are traced
abbrev pub Row : {V S : Type 0} → Tallying V → Stages S → (S → ℕ → ℕ) → S → (ℕ → Option V) → ℕ → Type 0
Row m n start-for s row limit = (t : ℕ) → t < limit → Entry m n (Traced n.prev start-for s t) s t (row t)

-- where a trace of several rows has the start for t at the stage s: a row for each stage from 1 on
abbrev pub kept_start : List ℕ → ℕ → ℕ → ℕ → ℕ
kept_start trace width s t = cond (s == 0) 0 (slice_index trace ((s - 1) * width + t))

-- the same by the place where the row begins
abbrev pub start_at : List ℕ → ℕ → ℕ → ℕ
start_at trace row t = slice_index trace (row + t)

abbrev pub row_before : ℕ → ℕ → ℕ
row_before width row = row - width

-- places `from` to `end` - 1 of a list
abbrev pub part : ℕ → ℕ → List ℕ → List ℕ
part from end xs = slice_range xs from end

-- No starts to t at all, or those that win, what they tally, which fits, and their boundaries as a part of the list.
abbrev pub Found : {V S : Type 0} → Tallying V → Stages S → (V → Type 0) → S → ℕ → ℕ → List ℕ → Option (V × ℕ) → Type 0
Found m n fits s t end list None = (ds : List ℕ) → Starts n s t ds → ⊥
Found m n fits s t end list (Some (v, from)) =
    (ds : List ℕ) × WinningStarts m n s t ds × (v ≡ tally_of m t ds) × fits v × (from ≤ end) × (part from end list ≡ boundaries_of ds [])
