-- What the definitions of Marks mean, said of gaps and of marks that stand together.
use Rattle.std.specs.Prelude.{◌≡◌, ℕ, suc, ◌<◌, ◌≤◌, ◌⊎◌, List, [], ◌∷◌, ◌++◌, length, None, Decides, ◌≢◌, slice_index_or}
use Rattle.division.specs.declared.mark.Mark.{Mark}
use Rattle.division.specs.Marks.{Covers}
use Rattle.division.specs.Stretches.{WellFormed}
use Rattle.division.specs.Theorems.{In}
use Rattle.marks.specs.declared.table.MarkTable.{MarkTable}
use Rattle.marks.specs.Marks.{in_order, laid, lifted, lay_refusal, lift_refusal}
use Rattle.marks.specs.Table.{marks_of}

-- The first of the marks begins at the reading `low` or later.
abbrev pub BeginFrom : ℕ → List Mark → Type 0
BeginFrom low [] = Unit {0}
BeginFrom low (m ∷ ms) = low ≤ m.first

-- The marks can stand together: each is well formed, and the next one begins where it ends or later.
abbrev pub Standing : List Mark → Type 0
Standing [] = Unit {0}
Standing (m ∷ ms) = WellFormed m × BeginFrom m.last ms × Standing ms

-- No gap is covered by the mark and by one of the list.
abbrev pub Apart : Mark → List Mark → Type 0
Apart m ms = (x : Mark) (g : ℕ) → In x ms → Covers m g → Covers x g → ⊥

-- `fewer` is `more` without the mark m, with the others in their order.
pub record LessOne (m : Mark) (more fewer : List Mark) : Type 0 where
  pub front : List Mark
  pub back : List Mark
  pub with_it : more ≡ front ++ m ∷ back
  pub without_it : fewer ≡ front ++ back

-- The mark can be laid on a line of n readings beside the marks ms.
pub record Layable (n : ℕ) (m : Mark) (ms : List Mark) : Type 0 where
  pub well_formed : WellFormed m
  pub on_line : m.last ≤ n
  pub apart : Apart m ms
  pub room : length ms < 64

-- `new` is `old` with the mark m laid.
pub record Lays (m : Mark) (old new : List Mark) : Type 0 where
  pub holds : (x : Mark) → In x new → (x ≡ m) ⊎ In x old
  pub held : (x : Mark) → (x ≡ m) ⊎ In x old → In x new
  pub one_more : length new ≡ suc (length old)
  pub others_in_order : LessOne m new old
  pub stands : Standing new

-- `new` is `old` with the mark that begins at `first` lifted, if there is one.
pub record Lifts (first : ℕ) (old new : List Mark) : Type 0 where
  pub holds : (x : Mark) → In x new → In x old × (x.first ≢ first)
  pub held : (x : Mark) → In x old → (x.first ≢ first) → In x new
  pub one_less : (m : Mark) → In m old → m.first ≡ first → length old ≡ suc (length new)
  pub others_in_order : (m : Mark) → In m old → m.first ≡ first → LessOne m old new
  pub stands : Standing new

-- The test that the type of a table keeps true says that its marks can stand together.
abbrev pub OrderDecidesStanding : Type 0
OrderDecidesStanding = (ms : List Mark) → Decides (in_order 1 ms) (Standing ms)

-- The marks of a table stand together, and are 64 at most.
abbrev pub EveryTableStands : Type 0
EveryTableStands = (t : MarkTable) → Standing (marks_of t) × (length (marks_of t) ≤ 64)

-- Of marks that stand together, each ends before or where any later one begins.
abbrev pub LaterMarksBeginLater : Type 0
LaterMarksBeginLater = (ms : List Mark) → Standing ms → (i j : ℕ) (d : Mark) → i < j → j < length ms → (slice_index_or ms i d).last ≤ (slice_index_or ms j d).first

-- Of marks that stand together, no two cover the same gap.
abbrev pub NoGapShared : Type 0
NoGapShared = (ms : List Mark) → Standing ms → (x y : Mark) (g : ℕ) → In x ms → In y ms → Covers x g → Covers y g → x ≡ y

-- A mark is laid exactly when it is well formed, on the line, apart from those that stand, and fewer than 64 stand.
abbrev pub LaidWhenLayable : Type 0
LaidWhenLayable =
    (n : ℕ) (m : Mark) (ms : List Mark) → Standing ms → (lay_refusal n m ms ≡ None → Layable n m ms) × (Layable n m ms → lay_refusal n m ms ≡ None)

-- A well_formed mark that shares no gap joins those that stand, and nothing else changes.
abbrev pub LaidAddsOne : Type 0
LaidAddsOne = (m : Mark) (ms : List Mark) → Standing ms → WellFormed m → Apart m ms → Lays m ms (laid m ms)

-- A mark is lifted exactly when one begins there.
abbrev pub LiftedWhenOneBegins : Type 0
LiftedWhenOneBegins =
    (first : ℕ) (ms : List Mark)
    → (lift_refusal first ms ≡ None → (m : Mark) × In m ms × (m.first ≡ first)) × ((m : Mark) → In m ms → m.first ≡ first → lift_refusal first ms ≡ None)

-- The mark that begins there goes, and nothing else changes.
abbrev pub LiftedTakesOne : Type 0
LiftedTakesOne = (first : ℕ) (ms : List Mark) → Standing ms → Lifts first ms (lifted first ms)
