-- The least over the levels from the lowest reading to the highest is the least over all whole levels.
use Rattle.std.specs.Prelude.{◌≡◌, ℕ, zero, suc, ◌<◌, ◌≤◌, ◌⊎◌, List, [], ◌∷◌, ℤ, pos, ◌+ℤ◌, ◌-ℤ◌, ◌≤ℤ◌, ◌<ℤ◌, fold, unsigned_abs, refl}
use Rattle.std.proofs.Common.{◌∙◌, inl, inr, mul-le-mul, arith}
use Rattle.std.specs.Int.{int_max, int_min}
use Rattle.std.specs.List.{AllByRecursion}
use Rattle.std.proofs.ByRecursion.{All-weaker, folded_min_z_bounds, folded_max_z_bounds}
use Rattle.std.proofs.lemmas.Int.{ints, by_lt_z}
use Rattle.std.proofs.lemmas.Bool.{cases_lt}
use Rattle.leaves.specs.Readings.{cost_at, Least, least_from, least_of, square, distance, differs, Rising, Between}
use Rattle.leaves.specs.Theorems.{LeastOfAll, LeastIsOne, LeastBetween, ReachedBetween, PricesRise}

module _ (g : ℕ → ℕ) (rises : (i j : ℕ) → i ≤ j → g i ≤ g j) where
  -- a level that is nearer to each reading costs no more
  pub nearer : (xs : List ℤ) (u v : ℤ) → AllByRecursion (λ x. unsigned_abs (x -ℤ u) ≤ unsigned_abs (x -ℤ v)) xs → cost_at g xs u ≤ cost_at g xs v
  nearer [] u v h = omega arith
  nearer (x ∷ xs) u v h =
      let here : g (unsigned_abs (x -ℤ u)) ≤ g (unsigned_abs (x -ℤ v)) = rises (unsigned_abs (x -ℤ u)) (unsigned_abs (x -ℤ v)) h.0 in
      let rest : cost_at g xs u ≤ cost_at g xs v = nearer xs u v h.1 in
      omega arith

least_under : (g : ℕ → ℕ) (xs : List ℤ) (k j : ℕ) (v u : ℤ) → j ≤ k → v +ℤ pos j ≡ u → least_from g xs v k ≤ cost_at g xs u
least_under g xs zero j v u l e = let s : v ≡ u = omega (arith, ints) in rw s (omega arith)
least_under g xs (suc k) zero v u l e = let s : v ≡ u = omega (arith, ints) in rw s (omega arith)
least_under g xs (suc k) (suc j) v u l e =
    let rest : least_from g xs (v +ℤ pos 1) k ≤ cost_at g xs u = least_under g xs k j (v +ℤ pos 1) u (omega arith) (omega (arith, ints)) in
    omega arith

least_reached : (g : ℕ → ℕ) (xs : List ℤ) (k : ℕ) (v : ℤ) → (u : ℤ) × (cost_at g xs u ≡ least_from g xs v k)
least_reached g xs zero v = (v, refl)
least_reached g xs (suc k) v = go (cases_lt (cost_at g xs v) (least_from g xs (v +ℤ pos 1) k)) (least_reached g xs k (v +ℤ pos 1))
  where
    go :
        (cost_at g xs v < least_from g xs (v +ℤ pos 1) k) ⊎ (least_from g xs (v +ℤ pos 1) k ≤ cost_at g xs v) →
        (u : ℤ) × (cost_at g xs u ≡ least_from g xs (v +ℤ pos 1) k) →
        (u : ℤ) × (cost_at g xs u ≡ least_from g xs v (suc k))
    go (inl l) r = (v, omega arith)
    go (inr l) r = (r.0, omega (arith, r.1))

module _
    (g : ℕ → ℕ) (rises : (i j : ℕ) → i ≤ j → g i ≤ g j) (xs : List ℤ) (lo hi : ℤ) (low : AllByRecursion (λ y. lo ≤ℤ y) xs) (high : AllByRecursion (λ y. y ≤ℤ hi) xs) (range : lo ≤ℤ hi)
  where
    abbrev found : ℕ
    found = least_from g xs lo (unsigned_abs (hi -ℤ lo))

    at_level : (v : ℤ) → lo ≤ℤ v → v ≤ℤ hi → found ≤ cost_at g xs v
    at_level v p q = least_under g xs (unsigned_abs (hi -ℤ lo)) (unsigned_abs (v -ℤ lo)) lo v (omega (arith, ints)) (omega (arith, ints))

    under : (v : ℤ) → v <ℤ lo → found ≤ cost_at g xs v
    under v l =
        let d : cost_at g xs lo ≤ cost_at g xs v = nearer g rises xs lo v (All-weaker (λ y. lo ≤ℤ y) (λ y. unsigned_abs (y -ℤ lo) ≤ unsigned_abs (y -ℤ v)) (λ y h. omega (arith, ints)) xs low) in
        omega (arith, at_level lo (omega (arith, ints)) range)

    over : (v : ℤ) → hi <ℤ v → found ≤ cost_at g xs v
    over v l =
        let d : cost_at g xs hi ≤ cost_at g xs v = nearer g rises xs hi v (All-weaker (λ y. y ≤ℤ hi) (λ y. unsigned_abs (y -ℤ hi) ≤ unsigned_abs (y -ℤ v)) (λ y h. omega (arith, ints)) xs high) in
        omega (arith, at_level hi range (omega (arith, ints)))

    within_range : Least g xs found
    within_range = record { reached = least_reached g xs (unsigned_abs (hi -ℤ lo)) lo; least = λ v. by_lt_z v lo (under v) (λ p. by_lt_z hi v (over v) (at_level v p)) }

pub least_of_all : LeastOfAll
least_of_all g rises [] = record { reached = (pos 0, refl); least = λ v. omega arith }
least_of_all g rises (x ∷ xs) =
    let low : AllByRecursion (λ y. fold int_min x xs ≤ℤ y) (x ∷ xs) = folded_min_z_bounds x xs (fold int_min x xs) refl in
    let high : AllByRecursion (λ y. y ≤ℤ fold int_max x xs) (x ∷ xs) = folded_max_z_bounds x xs (fold int_max x xs) refl in
    within_range g rises (x ∷ xs) (fold int_min x xs) (fold int_max x xs) low high (omega (arith, ints, low.0, high.0))

pub least_is_one : LeastIsOne
least_is_one g xs c d h k = omega (arith, h.reached.1, k.reached.1, h.least k.reached.0, k.least h.reached.0)

pub least_between : LeastBetween
least_between g rises lo span xs fits =
    let h : unsigned_abs ((lo +ℤ pos span) -ℤ lo) ≡ span = omega (arith, ints) in
    let w : Least g xs (least_from g xs lo (unsigned_abs ((lo +ℤ pos span) -ℤ lo))) =
    within_range g rises xs lo (lo +ℤ pos span)
    (All-weaker (Between lo span) (λ y. lo ≤ℤ y) (λ y h. h.0) xs fits)
    (All-weaker (Between lo span) (λ y. y ≤ℤ (lo +ℤ pos span)) (λ y h. h.1) xs fits)
    (omega (arith, ints)) in
    least_is_one g xs (least_from g xs lo span) (least_of g xs) (rw h at w) (least_of_all g rises xs)

reached_from : (g : ℕ → ℕ) (xs : List ℤ) (k : ℕ) (v : ℤ) → (u : ℤ) × Between v k u × (cost_at g xs u ≡ least_from g xs v k)
reached_from g xs zero v = (v, (omega (arith, ints), omega (arith, ints)), refl)
reached_from g xs (suc k) v = go (cases_lt (cost_at g xs v) (least_from g xs (v +ℤ pos 1) k)) (reached_from g xs k (v +ℤ pos 1))
  where
    go :
        (cost_at g xs v < least_from g xs (v +ℤ pos 1) k) ⊎ (least_from g xs (v +ℤ pos 1) k ≤ cost_at g xs v) →
        (u : ℤ) × Between (v +ℤ pos 1) k u × (cost_at g xs u ≡ least_from g xs (v +ℤ pos 1) k) →
        (u : ℤ) × Between v (suc k) u × (cost_at g xs u ≡ least_from g xs v (suc k))
    go (inl l) r = (v, (omega (arith, ints), omega (arith, ints)), omega arith)
    go (inr l) r = (r.0, (omega (arith, ints, r.1.0), omega (arith, ints, r.1.1)), omega (arith, r.2))

pub reached_between : ReachedBetween
reached_between g rises lo span xs fits = let r = reached_from g xs span lo in (r.0, r.1, r.2 ∙ least_between g rises lo span xs fits)

pub rising_square : Rising square
rising_square i j h = mul-le-mul h h

pub rising_distance : Rising distance
rising_distance i j h = h

pub rising_differs : Rising differs
rising_differs i j h = omega arith

pub prices_rise : PricesRise
prices_rise = (rising_square, rising_distance, rising_differs)
