-- What makes the loss of a stretch the right number, whatever the price, as long as it rises with the distance.
use Rattle.std.specs.Prelude.{◌≡◌, ℕ, List, ℤ}
use Rattle.std.specs.List.{AllByRecursion}
use Rattle.leaves.specs.Readings.{cost_at, Least, least_from, least_of, square, distance, differs, Rising, Between}

-- some whole level costs the loss, and none costs less
abbrev pub LeastOfAll : Type 0
LeastOfAll = (g : ℕ → ℕ) → Rising g → (xs : List ℤ) → Least g xs (least_of g xs)

-- only one number is the least
abbrev pub LeastIsOne : Type 0
LeastIsOne = (g : ℕ → ℕ) (xs : List ℤ) (c d : ℕ) → Least g xs c → Least g xs d → c ≡ d

-- of readings from lo to lo + span it is the least over those levels alone: at lo = 0 and span = 15, over the classes 0 to 15
abbrev pub LeastBetween : Type 0
LeastBetween = (g : ℕ → ℕ) → Rising g → (lo : ℤ) (span : ℕ) (xs : List ℤ) → AllByRecursion (Between lo span) xs → least_from g xs lo span ≡ least_of g xs

-- and one of those levels costs as much
abbrev pub ReachedBetween : Type 0
ReachedBetween = (g : ℕ → ℕ) → Rising g → (lo : ℤ) (span : ℕ) (xs : List ℤ) → AllByRecursion (Between lo span) xs → (v : ℤ) × Between lo span v × (cost_at g xs v ≡ least_of g xs)

-- the three prices rise
abbrev pub PricesRise : Type 0
PricesRise = Rising square × Rising distance × Rising differs
