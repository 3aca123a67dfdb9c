-- A level that half of the readings stand at or below, and half at or above, costs the least sum of distances.
use Rattle.std.proofs.Common.{◌≡◌, ℕ, suc, ◌+◌, ◌<◌, ◌≤◌, List, [], ◌∷◌, length, refl, arith}
use Rattle.std.proofs.lemmas.Bool.Decides.{nat_tests}
use Rattle.leaves.specs.Readings.{distance}
use Rattle.std.specs.Int.{abs_diff}
use Rattle.std.specs.List.{sum_by}
use Rattle.std.proofs.lemmas.List.Sums.{sum_by-cons}
use Rattle.leaves.specs.Kept.{cost, up_to, Low}
use Rattle.leaves.proofs.Parts.{valley, cost_more, low_cons}

-- one level up, at one reading
one_step : (u k : ℕ) → abs_diff u (suc k) + 1 ≡ abs_diff u k + (up_to k u + up_to k u)
one_step u k = grind (arith, nat_tests)

step : (us : List ℕ) (k : ℕ) → cost distance us (suc k) + length us ≡ cost distance us k + (sum_by (up_to k) us + sum_by (up_to k) us)
step [] k = refl
step (u ∷ us) k = omega (arith, one_step u k, step us k, cost_more distance u us k, cost_more distance u us (suc k), sum_by-cons (up_to k) u us)

more_one : (u j k : ℕ) → j ≤ k → up_to j u ≤ up_to k u
more_one u j k h = grind (arith, nat_tests)

pub more : (us : List ℕ) (j k : ℕ) → j ≤ k → sum_by (up_to j) us ≤ sum_by (up_to k) us
more [] j k h = omega arith
more (u ∷ us) j k h = omega (arith, more_one u j k h, more us j k h, sum_by-cons (up_to j) u us, sum_by-cons (up_to k) u us)

up_to_yes : (k u : ℕ) → u ≤ k → up_to k u ≡ 1
up_to_yes k u h = grind (arith, nat_tests)

pub all_under : (k : ℕ) (us : List ℕ) → Low k us → sum_by (up_to k) us ≡ length us
all_under k [] low = refl
all_under k (u ∷ us) low = let l = low_cons k u us low in omega (arith, up_to_yes k u l.0, all_under k us l.1, sum_by-cons (up_to k) u us)

pub middle_best : (us : List ℕ) (v : ℕ) → length us ≤ sum_by (up_to v) us + sum_by (up_to v) us → ((k : ℕ) → k < v → sum_by (up_to k) us + sum_by (up_to k) us ≤ length us)
    → (k : ℕ) → cost distance us v ≤ cost distance us k
middle_best us v hi lo =
    valley (cost distance us) v
    (λ k h. omega (arith, step us k, more us v k h))
    (λ k h. omega (arith, step us k, lo k h))

-- one turn of the bisection
pub half_below : (us : List ℕ) (mid c n : ℕ) → c ≡ sum_by (up_to mid) us → n ≡ length us → c + c < n → (k : ℕ) → k < mid + 1 → sum_by (up_to k) us + sum_by (up_to k) us ≤ length us
half_below us mid c n e en h k lt = omega (arith, more us k mid (omega arith))
