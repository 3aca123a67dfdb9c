-- How readings are kept: each by its distance from the lowest level lo, with sums over those before each place.
use Rattle.std.specs.Prelude.{◌≡◌, ℕ, ◌+◌, ◌*◌, ◌/◌, ◌%◌, ◌<◌, ◌≤◌, cond, List, [], map, length, take, ℤ, pos, ◌+ℤ◌, ◌==◌, nat_le, slice_index, slice_index_or}
use Rattle.std.specs.Int.{abs_diff}
use Rattle.std.specs.List.{All, sum_by}
use Rattle.leaves.specs.declared.squares.Sums.{Sums}

-- the reading at the distance u from lo
abbrev pub placed : ℤ → ℕ → ℤ
placed lo u = lo +ℤ pos u

-- the readings at the distances us from lo
abbrev pub readings_at : ℤ → List ℕ → List ℤ
readings_at lo us = map (placed lo) us

-- each distance is at most span
abbrev pub Low : ℕ → List ℕ → Type 0
Low span us = All (λ u. u ≤ span) us

-- what is summed for the loss by squares
abbrev pub itself : ℕ → ℕ
itself u = u

abbrev pub squared : ℕ → ℕ
squared u = u * u

abbrev pub sums_of : List ℕ → Sums
sums_of us = record { distances = sum_by itself us; squares = sum_by squared us }

-- each place up to the last of us has the sums over the distances before it
abbrev pub Before : List ℕ → List Sums → Type 0
Before us sums = (i : ℕ) (d : Sums) → i ≤ length us → slice_index_or sums i d ≡ sums_of (take i us)

-- the whole number nearest to s / n, the lower of two
abbrev pub nearest : ℕ → ℕ → ℕ
nearest s n = cond (nat_le (s % n + s % n) n) (s / n) (s / n + 1)

-- what the readings cost at the level lo + k, by the price g
abbrev pub cost : (ℕ → ℕ) → List ℕ → ℕ → ℕ
cost g us k = sum_by (λ u. g (abs_diff u k)) us

-- 1 for a distance of at most k
abbrev pub up_to : ℕ → ℕ → ℕ
up_to k u = cond (nat_le u k) 1 0

-- 1 for the distance k
abbrev pub hit : ℕ → ℕ → ℕ
hit k u = cond (u == k) 1 0

-- row i counts, for each class, the readings of that class before place i
abbrev pub Counts : List ℕ → List (List ℕ) → Type 0
Counts us rows = (i k : ℕ) → i ≤ length us → slice_index (slice_index_or rows i []) k ≡ sum_by (hit k) (take i us)

-- each of 513 rows has a count for each of 16 classes
abbrev pub Wide : List (List ℕ) → Type 0
Wide rows = (i : ℕ) → i < 513 → length (slice_index_or rows i []) ≡ 16
