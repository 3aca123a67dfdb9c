-- The worked examples, as one statement over the rules that the check computes.
use Rattle.std.specs.Prelude.{◌≡◌, ℕ, List, [], ◌∷◌, map, ℤ, pos, negsuc, Some, None}
use Rattle.leaves.specs.Readings.{loss_of, square, distance, differs}
use Rattle.division.specs.declared.mark.Mark.{Mark}
use Rattle.division.specs.Winner.{by_penalty, by_count, total, winner}

abbrev pub line_a : List ℤ
line_a = map pos (3 ∷ 3 ∷ 8 ∷ 9 ∷ 4 ∷ 4 ∷ [])

-- what the stretches of line A lose by squares
abbrev pub on_a : ℕ → ℕ → ℕ
on_a = loss_of square line_a

-- and those of the readings 7, 7, 7
abbrev pub on_sevens : ℕ → ℕ → ℕ
on_sevens = loss_of square (map pos (7 ∷ 7 ∷ 7 ∷ []))

abbrev pub mark : ℕ → ℕ → ℕ → Mark
mark s e y = record { first = s; last = e; boundaries = y }

-- the winner by penalty p, with its total
pub record PenaltyGives (f : ℕ → ℕ → ℕ) (p : ℕ) (marks : List Mark) (m n : ℕ) (d : List ℕ) (t : ℕ) : Type 0 where
  pub wins : winner (by_penalty p) f marks m n ≡ Some d
  pub costs : total (by_penalty p) f n d ≡ t

pub record Examples : Type 0 where
  pub whole : on_a 0 6 ≡ 35
  pub front : on_a 1 3 ≡ 13
  pub middle : on_a 2 4 ≡ 1
  pub penalty_0 : PenaltyGives on_a 0 [] 1 6 (2 ∷ 3 ∷ 4 ∷ []) 0
  pub penalty_1 : PenaltyGives on_a 1 [] 1 6 (2 ∷ 4 ∷ []) 3
  pub penalty_16 : PenaltyGives on_a 16 [] 1 6 (2 ∷ 4 ∷ []) 33
  pub penalty_17 : PenaltyGives on_a 17 [] 1 6 [] 35
  pub marked : PenaltyGives on_a 5 (mark 2 4 0 ∷ []) 1 6 (1 ∷ 4 ∷ []) 31
  pub shortest_3 : PenaltyGives on_a 0 [] 3 6 (3 ∷ []) 34
  pub none_allowed : winner (by_penalty 0) on_a (mark 1 3 1 ∷ []) 3 6 ≡ None
  pub equal_levels : PenaltyGives on_sevens 0 (mark 1 3 1 ∷ []) 1 3 (2 ∷ []) 0
  pub count_4 : winner (by_count 4) on_a [] 1 6 ≡ Some (2 ∷ 3 ∷ 4 ∷ 5 ∷ [])
  pub count_3_of_2 : winner (by_count 3) on_a [] 2 6 ≡ None
  pub later_of_equals : winner (by_count 1) on_sevens [] 1 3 ≡ Some (2 ∷ [])
  pub by_distances : loss_of distance line_a 0 6 ≡ 11
  pub by_votes : loss_of differs line_a 0 6 ≡ 4
  pub below_zero : loss_of square (negsuc 2 ∷ negsuc 3 ∷ negsuc 3 ∷ []) 0 3 ≡ 1
