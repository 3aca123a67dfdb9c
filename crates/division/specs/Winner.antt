-- The winning division: the best of the allowed ones among ALL divisions of n readings.
use Rattle.std.specs.Prelude.{◌≡◌, ℕ, ◌+◌, ◌*◌, Bool, cond, ◌&&◌, List, [], ◌∷◌, length, Some, None, filter, Option, ◌==◌}
use Rattle.division.specs.declared.mark.Mark.{Mark}
use Rattle.division.specs.Division.{loss, all_divisions}
use Rattle.division.specs.Marks.{Allowed, allowed}
use Rattle.division.specs.Order.{Beats, beats}

-- what the user asks for: a penalty for each boundary, or a number of boundaries
pub data Criterion : Type 0 where
  by_penalty : ℕ → Criterion
  by_count : ℕ → Criterion

-- the divisions to choose from: the allowed ones, by count those of that count
abbrev pub Candidate : Criterion → List Mark → ℕ → ℕ → List ℕ → Type 0
Candidate (by_penalty p) marks m n ds = Allowed marks m n ds
Candidate (by_count k) marks m n ds = Allowed marks m n ds × (length ds ≡ k)

abbrev pub candidate : Criterion → List Mark → ℕ → ℕ → List ℕ → Bool
candidate (by_penalty p) marks m n ds = allowed marks m n ds
candidate (by_count k) marks m n ds = allowed marks m n ds && length ds == k

-- what a division costs by the table f: its loss, by penalty plus the penalty for each boundary
abbrev pub total : Criterion → (ℕ → ℕ → ℕ) → ℕ → List ℕ → ℕ
total (by_penalty p) f n ds = loss f n ds + p * length ds
total (by_count k) f n ds = loss f n ds

-- the better of d and what was best so far
abbrev pub better : (List ℕ → List ℕ → Bool) → List ℕ → Option (List ℕ) → Option (List ℕ)
better b d None = Some d
better b d (Some e) = Some (cond (b e d) e d)

abbrev pub best : (List ℕ → List ℕ → Bool) → List (List ℕ) → Option (List ℕ)
best b [] = None
best b (d ∷ ds) = better b d (best b ds)

-- the best of the candidates, or None where there is none
abbrev pub winner : Criterion → (ℕ → ℕ → ℕ) → List Mark → ℕ → ℕ → Option (List ℕ)
winner c f marks m n = best (beats (total c f n)) (filter (candidate c marks m n) (all_divisions n))

-- d wins: it is a candidate, and no candidate beats it
pub record Wins (c : Criterion) (f : ℕ → ℕ → ℕ) (marks : List Mark) (m n : ℕ) (d : List ℕ) : Type 0 where
  pub candidate : Candidate c marks m n d
  pub unbeaten : (e : List ℕ) → Candidate c marks m n e → Beats (total c f n) e d → ⊥
