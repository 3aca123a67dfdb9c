-- What the definitions mean: the theorems that the crate's contracts name.
use Rattle.std.specs.Prelude.{◌≡◌, ℕ, ◌<◌, ◌≤◌, ◌⊎◌, ◌↔◌, List, [], ◌∷◌, length, Some, None, Decides, Option}
use Rattle.std.specs.List.{AllByRecursion}
use Rattle.division.specs.declared.mark.Mark.{Mark}
use Rattle.division.specs.Division.{EachStretch, Division, all_divisions}
use Rattle.division.specs.Marks.{Allowed, allowed}
use Rattle.division.specs.Order.{Later, Beats, beats, LaterWhereTheyLastDiffer}
use Rattle.division.specs.Stretches.{WellFormed, Permitted}
use Rattle.division.specs.Winner.{Criterion, Candidate, candidate, total, winner, Wins}

-- x is one of the list
abbrev pub In : {A : Type 0} → A → List A → Type 0
In x [] = ⊥
In x (y ∷ ys) = (x ≡ y) ⊎ In x ys

-- the list of all divisions has every division of n readings, and nothing else
abbrev pub AllListed : Type 0
AllListed = (n : ℕ) (ds : List ℕ) → In ds (all_divisions n) ↔ Division n ds

-- the tests say what the relations say
abbrev pub AllowedTested : Type 0
AllowedTested = (marks : List Mark) (m n : ℕ) (ds : List ℕ) → Decides (allowed marks m n ds) (Allowed marks m n ds)

abbrev pub CandidateTested : Type 0
CandidateTested = (c : Criterion) (marks : List Mark) (m n : ℕ) (ds : List ℕ) → Decides (candidate c marks m n ds) (Candidate c marks m n ds)

abbrev pub BeatsTested : Type 0
BeatsTested = (cost : List ℕ → ℕ) (d e : List ℕ) → Decides (beats cost d e) (Beats cost d e)

-- `Later` in words: fewer boundaries, or as many and the later boundary where the two last differ
abbrev pub LaterInWords : Type 0
LaterInWords = (d e : List ℕ) → Later d e ↔ ((length d < length e) ⊎ ((length d ≡ length e) × LaterWhereTheyLastDiffer d e))

-- the winner is the division that wins, and there is none exactly where there is no candidate
pub record Answered (c : Criterion) (f : ℕ → ℕ → ℕ) (marks : List Mark) (m n : ℕ) (o : Option (List ℕ)) : Type 0 where
  pub wins : (d : List ℕ) → (o ≡ Some d) ↔ Wins c f marks m n d
  pub none : (o ≡ None) ↔ ((e : List ℕ) → Candidate c marks m n e → ⊥)

abbrev pub WinnerWins : Type 0
WinnerWins = (c : Criterion) (f : ℕ → ℕ → ℕ) (marks : List Mark) (m n : ℕ) → Answered c f marks m n (winner c f marks m n)

-- at most one division wins
abbrev pub OneWins : Type 0
OneWins = (c : Criterion) (f : ℕ → ℕ → ℕ) (marks : List Mark) (m n : ℕ) (d e : List ℕ) → Wins c f marks m n d → Wins c f marks m n e → d ≡ e

-- and it costs no more than any candidate
abbrev pub WinnerCostsLeast : Type 0
WinnerCostsLeast = (c : Criterion) (f : ℕ → ℕ → ℕ) (marks : List Mark) (m n : ℕ) (d e : List ℕ) → Wins c f marks m n d → Candidate c marks m n e → total c f n d ≤ total c f n e

-- being allowed is a condition on each stretch by itself, whatever the marks, also those that reach past n
abbrev pub AllowedByStretch : Type 0
AllowedByStretch = (marks : List Mark) (m n : ℕ) (ds : List ℕ) → AllByRecursion WellFormed marks → Allowed marks m n ds ↔ EachStretch (Permitted marks m n) n 0 ds
