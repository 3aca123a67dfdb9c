-- The path of a line, from the least loss for each count, and what it says of the cut at each penalty.
use Rattle.std.specs.Prelude.{◌≡◌, ℕ, ◌<◌, ◌≤◌, ◌↔◌, List, length, Some, None, Option}
use Rattle.division.specs.declared.mark.Mark.{Mark}
use Rattle.division.specs.Division.{loss}
use Rattle.division.specs.Winner.{by_penalty, by_count, winner}
use Rattle.envelope.specs.declared.Step.{Step}
use Rattle.envelope.specs.Path.{path_at, path_steps, largest_penalty, read, reached}

-- the loss of a division, if there is one
abbrev pub loss_if_any : (ℕ → ℕ → ℕ) → ℕ → Option (List ℕ) → Option ℕ
loss_if_any f n None = None
loss_if_any f n (Some d) = Some (loss f n d)

-- the least loss of an allowed division with k boundaries
abbrev pub least_loss : (ℕ → ℕ → ℕ) → List Mark → ℕ → ℕ → ℕ → Option ℕ
least_loss f marks m n k = loss_if_any f n (winner (by_count k) f marks m n)

-- the path of a line of n readings
abbrev pub line_path : (ℕ → ℕ → ℕ) → List Mark → ℕ → ℕ → List Step
line_path f marks m n = path_steps (least_loss f marks m n) n

-- a division at the penalty p, as a step: its count and its loss
abbrev pub as_step : (ℕ → ℕ → ℕ) → ℕ → ℕ → Option (List ℕ) → Option Step
as_step f n p None = None
as_step f n p (Some d) = Some (record { penalty = p; count = length d; loss = loss f n d })

-- the count and the loss at p are those of the division that wins at p
abbrev pub PathNamesTheCut : Type 0
PathNamesTheCut = (f : ℕ → ℕ → ℕ) (p : ℕ) (marks : List Mark) (m n : ℕ) → path_at (least_loss f marks m n) p n ≡ as_step f n p (winner (by_penalty p) f marks m n)

-- and so the steps say at every penalty up to 2^49
abbrev pub NamesEveryCut : (ℕ → ℕ → ℕ) → List Mark → ℕ → ℕ → List Step → Type 0
NamesEveryCut f marks m n ss = (p : ℕ) → p ≤ largest_penalty → read p (reached p ss) ≡ as_step f n p (winner (by_penalty p) f marks m n)

abbrev pub StepsNameEveryCut : Type 0
StepsNameEveryCut = (f : ℕ → ℕ → ℕ) (marks : List Mark) (m n : ℕ) → NamesEveryCut f marks m n (line_path f marks m n)

-- no division wins at a penalty exactly where no count has one
abbrev pub NoCountNoCut : Type 0
NoCountNoCut = (f : ℕ → ℕ → ℕ) (p : ℕ) (marks : List Mark) (m n : ℕ) → (winner (by_penalty p) f marks m n ≡ None) ↔ ((k : ℕ) → k < n → least_loss f marks m n k ≡ None)
