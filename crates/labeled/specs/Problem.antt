-- The labeled optimal partitioning problem: gaps are chosen and each reading is given a whole level. The levels change only at chosen
-- gaps, and the marks say how many gaps are chosen where. A choice costs the price of each reading's distance from its level, and
-- by penalty the penalty for each chosen gap.
use Rattle.std.specs.Prelude.{◌≡◌, ℕ, suc, ◌+◌, ◌*◌, ◌<◌, ◌≤◌, List, [], ◌∷◌, length, ℤ, pos, ◌-ℤ◌, Some, None, slice_index_or, unsigned_abs}
use Rattle.std.specs.List.{AllByRecursion}
use Rattle.loss.specs.Table.{Table}
use Rattle.leaves.specs.Readings.{cost_at, Rising, Between, stretch_of, loss_of}
use Rattle.division.specs.declared.mark.Mark.{Mark}
use Rattle.division.specs.Division.{Division, EachStretch, sum_stretches}
use Rattle.division.specs.Theorems.{In}
use Rattle.division.specs.Winner.{Criterion, by_penalty, by_count, Candidate, total, winner}

-- a level for each of n readings, the same on both sides of each gap that is not chosen; gap i + 1 lies between the places i and i + 1
pub record LevelRow (n : ℕ) (ds : List ℕ) (ms : List ℤ) : Type 0 where
  pub as_many : length ms ≡ n
  pub steady : (i : ℕ) → suc i < n → (In (suc i) ds → ⊥) → slice_index_or ms i (pos 0) ≡ slice_index_or ms (suc i) (pos 0)

-- the price of each reading's distance from its level
abbrev pub row_cost : (ℕ → ℕ) → List ℤ → List ℤ → ℕ
row_cost g [] ms = 0
row_cost g (x ∷ xs) [] = 0
row_cost g (x ∷ xs) (m ∷ ms) = g (unsigned_abs (x -ℤ m)) + row_cost g xs ms

-- the cost of the chosen gaps ds with the levels ms
abbrev pub choice_cost : Criterion → (ℕ → ℕ) → List ℤ → List ℕ → List ℤ → ℕ
choice_cost (by_penalty p) g xs ds ms = row_cost g xs ms + p * length ds
choice_cost (by_count k) g xs ds ms = row_cost g xs ms

-- d with some row of levels costs t, and no allowed gaps with any row of levels cost less
pub record Solves (c : Criterion) (g : ℕ → ℕ) (marks : List Mark) (m : ℕ) (xs : List ℤ) (d : List ℕ) (t : ℕ) : Type 0 where
  pub candidate : Candidate c marks m (length xs) d
  pub reached : (ms : List ℤ) × LevelRow (length xs) d ms × (choice_cost c g xs d ms ≡ t)
  pub least : (ds : List ℕ) (ms : List ℤ) → Candidate c marks m (length xs) ds → LevelRow (length xs) ds ms → t ≤ choice_cost c g xs ds ms

-- the levels of d can all be kept to lo, lo + 1, .. lo + span, at no higher cost: codes of classes are given classes
abbrev pub KeptBetween : Criterion → (ℕ → ℕ) → ℤ → ℕ → List ℤ → List ℕ → ℕ → Type 0
KeptBetween c g lo span xs d t = (ms : List ℤ) × LevelRow (length xs) d ms × AllByRecursion (Between lo span) ms × (choice_cost c g xs d ms ≡ t)

-- for every price that rises with the distance: the winner solves the problem, and its total is the least cost
abbrev pub WinnerSolves : Type 0
WinnerSolves =
    (g : ℕ → ℕ) → Rising g → (c : Criterion) (marks : List Mark) (m : ℕ) (xs : List ℤ) (d : List ℕ) → winner c (loss_of g xs) marks m (length xs) ≡ Some d →
    Solves c g marks m xs d (total c (loss_of g xs) (length xs) d)

abbrev pub WinnerKeptBetween : Type 0
WinnerKeptBetween =
    (g : ℕ → ℕ) → Rising g → (lo : ℤ) (span : ℕ) (c : Criterion) (marks : List Mark) (m : ℕ) (xs : List ℤ) (d : List ℕ) → AllByRecursion (Between lo span) xs → winner c (loss_of g xs) marks m (length xs) ≡ Some d →
    KeptBetween c g lo span xs d (total c (loss_of g xs) (length xs) d)

-- where there is no winner, no gaps are allowed
abbrev pub NoWinnerNoChoice : Type 0
NoWinnerNoChoice = (g : ℕ → ℕ) (c : Criterion) (marks : List Mark) (m : ℕ) (xs : List ℤ) → winner c (loss_of g xs) marks m (length xs) ≡ None → (ds : List ℕ) → Candidate c marks m (length xs) ds → ⊥

-- of one loss that holds readings: whatever is asked for, what wins by its table solves the problem of its readings
pub record SolvedBy (g : ℕ → ℕ) (lo : ℤ) (span : ℕ) (xs : List ℤ) (t : Table) : Type 0 where
  pub solves : (c : Criterion) (marks : List Mark) (m : ℕ) (d : List ℕ) → winner c t.loss marks m t.length ≡ Some d → Solves c g marks m xs d (total c t.loss t.length d)
  pub between : (c : Criterion) (marks : List Mark) (m : ℕ) (d : List ℕ) → winner c t.loss marks m t.length ≡ Some d → KeptBetween c g lo span xs d (total c t.loss t.length d)
  pub none : (c : Criterion) (marks : List Mark) (m : ℕ) → winner c t.loss marks m t.length ≡ None → (ds : List ℕ) → Candidate c marks m (length xs) ds → ⊥

-- a row of levels costs what its stretches cost, by any division; and on each stretch of its own division it has one level
abbrev pub RowSplits : Type 0
RowSplits =
    (g : ℕ → ℕ) (xs ms : List ℤ) (ds : List ℕ) → Division (length xs) ds → length ms ≡ length xs →
    row_cost g xs ms ≡ sum_stretches (λ a b. row_cost g (stretch_of xs a b) (stretch_of ms a b)) (length xs) 0 ds

abbrev pub OneLevel : Type 0
OneLevel =
    (g : ℕ → ℕ) (xs ms : List ℤ) (ds : List ℕ) → Division (length xs) ds → LevelRow (length xs) ds ms →
    EachStretch (λ a b. row_cost g (stretch_of xs a b) (stretch_of ms a b) ≡ cost_at g (stretch_of xs a b) (slice_index_or ms a (pos 0))) (length xs) 0 ds
