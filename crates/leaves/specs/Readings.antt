-- What readings cost at a level, and what a stretch of them loses: the least that they cost at any whole level.
-- A price g says what one reading costs by its distance from the level.
use Rattle.std.specs.Prelude.{◌≡◌, ℕ, zero, suc, ◌+◌, ◌-◌, ◌*◌, ◌≤◌, min, List, [], ◌∷◌, length, take, drop, ℤ, pos, negsuc, ◌+ℤ◌, ◌-ℤ◌, ◌≤ℤ◌, fold, unsigned_abs}
use Rattle.std.specs.Int.{int_max, int_min}
use Rattle.loss.specs.Table.{Table}

-- what the readings xs cost at the level v
abbrev pub cost_at : (ℕ → ℕ) → List ℤ → ℤ → ℕ
cost_at g [] v = 0
cost_at g (x ∷ xs) v = g (unsigned_abs (x -ℤ v)) + cost_at g xs v

-- c is the least that they cost: some whole level costs c, and none costs less
pub record Least (g : ℕ → ℕ) (xs : List ℤ) (c : ℕ) : Type 0 where
  pub reached : (v : ℤ) × (cost_at g xs v ≡ c)
  pub least : (v : ℤ) → c ≤ cost_at g xs v

-- the least over the levels v, v + 1, .. v + k
abbrev pub least_from : (ℕ → ℕ) → List ℤ → ℤ → ℕ → ℕ
least_from g xs v zero = cost_at g xs v
least_from g xs v (suc k) = min (cost_at g xs v) (least_from g xs (v +ℤ pos 1) k)

-- the least over the levels from the lowest reading to the highest
abbrev pub least_of : (ℕ → ℕ) → List ℤ → ℕ
least_of g [] = 0
least_of g (x ∷ xs) = least_from g (x ∷ xs) (fold int_min x xs) (unsigned_abs (fold int_max x xs -ℤ fold int_min x xs))

-- the price of a reading at the distance d from the level, by squares
abbrev pub square : ℕ → ℕ
square d = d * d

-- by distances
abbrev pub distance : ℕ → ℕ
distance d = d

-- by votes: 1 for a reading that differs from the level
abbrev pub differs : ℕ → ℕ
differs d = min d 1

-- a price that never falls as the distance grows
abbrev pub Rising : (ℕ → ℕ) → Type 0
Rising g = (i j : ℕ) → i ≤ j → g i ≤ g j

-- the stretch (a, b) of xs: from place a + 1 to place b
abbrev pub stretch_of : {A : Type 0} → List A → ℕ → ℕ → List A
stretch_of xs a b = take (b - a) (drop a xs)

-- what the stretch (a, b) of the readings xs loses
abbrev pub loss_of : (ℕ → ℕ) → List ℤ → ℕ → ℕ → ℕ
loss_of g xs a b = least_of g (stretch_of xs a b)

-- the readings xs as a loss, by the price g, with the ceiling c
abbrev pub table_of : (ℕ → ℕ) → ℕ → List ℤ → Table
table_of g c xs = record { length = length xs; ceiling = c; loss = loss_of g xs }

-- x is one of the levels lo, lo + 1, .. lo + span
abbrev pub Between : ℤ → ℕ → ℤ → Type 0
Between lo span x = (lo ≤ℤ x) × (x ≤ℤ (lo +ℤ pos span))

-- the lowest reading of 16 bits, -32768
abbrev pub lowest : ℤ
lowest = negsuc 32767
