-- Readings as they are kept: sums of a part, and the loss as the cost that no level goes below.
use Rattle.std.proofs.Common.{◌≡◌, ℕ, zero, suc, ◌+◌, ◌-◌, ◌<◌, ◌≤◌, List, [], ◌∷◌, ◌++◌, length, take, drop, ℤ, pos, ◌+ℤ◌, ◌-ℤ◌, nat_abs, ◌<ℤ◌, sym, refl, ap, ◌∙◌, inl, inr, arith}
use Rattle.std.proofs.lemmas.Int.{ints, by_lt_z}
use Rattle.std.proofs.lemmas.Bool.Decides.{leb_tells}
use Rattle.std.proofs.lemmas.List.{take-append-drop, take-take, drop-take, take-map, drop-map, length-take, length-drop}
use Rattle.std.specs.List.{AllByRecursion, sum_by}
use Rattle.leaves.specs.Readings.{cost_at, least_of, Rising, stretch_of, loss_of}
use Rattle.leaves.specs.LeastLevel.{least_of_all, least_is_one, nearer}
use Rattle.std.specs.Int.{abs_diff}
use Rattle.std.proofs.lemmas.List.Sums.{sum_by-append, sum_by-cons}
use Rattle.std.proofs.lemmas.List.Elements.{All-take, All-drop}
use Rattle.leaves.specs.Kept.{placed, cost, Low, readings_at}

-- the first b are the first a and the stretch (a, b)
pub split : {A : Type 0} (us : List A) (a b : ℕ) → a ≤ b → take b us ≡ take a us ++ stretch_of us a b
split us a b h =
    let e : b ≡ a + (b - a) = omega arith in
    let p = take-append-drop a (take b us) in
    let q = take-take a b us h in
    let r : drop a (take b us) ≡ take (b - a) (drop a us) = ap (λ (n : ℕ). drop a (take n us)) e ∙ drop-take a (b - a) us in
    cc

pub sum_part : (f : ℕ → ℕ) (us : List ℕ) (a b : ℕ) → a ≤ b → sum_by f (take b us) ≡ sum_by f (take a us) + sum_by f (stretch_of us a b)
sum_part f us a b h = ap (sum_by f) (split us a b h) ∙ sum_by-append f (take a us) (stretch_of us a b)

pub length_part : (us : List ℕ) (a b : ℕ) → b ≤ length us → length (stretch_of us a b) ≡ b - a
length_part us a b h = simp (length-take, length-drop) (omega arith)

-- a stretch of the readings
part_held : (lo : ℤ) (us : List ℕ) (a b : ℕ) → stretch_of (readings_at lo us) a b ≡ readings_at lo (stretch_of us a b)
part_held lo us a b = ap (take (b - a)) (drop-map (placed lo) a us) ∙ take-map (placed lo) (b - a) (drop a us)

apart_is : (lo : ℤ) (u k : ℕ) → nat_abs ((lo +ℤ pos u) -ℤ (lo +ℤ pos k)) ≡ abs_diff u k
apart_is lo u k = omega (arith, ints)

-- the cost of one reading more
pub cost_more : (g : ℕ → ℕ) (u : ℕ) (us : List ℕ) (k : ℕ) → cost g (u ∷ us) k ≡ g (abs_diff u k) + cost g us k
cost_more g u us k = sum_by-cons (λ v. g (abs_diff v k)) u us

pub cost_is : (g : ℕ → ℕ) (lo : ℤ) (us : List ℕ) (k : ℕ) → cost_at g (readings_at lo us) (placed lo k) ≡ cost g us k
cost_is g lo [] k = refl
cost_is g lo (u ∷ us) k =
    let e : g (nat_abs (placed lo u -ℤ placed lo k)) ≡ g (abs_diff u k) = ap g (apart_is lo u k) in
    omega (arith, e, cost_is g lo us k, cost_more g u us k)

above : (lo w : ℤ) → w <ℤ lo → (us : List ℕ) → AllByRecursion (λ x. nat_abs (x -ℤ placed lo 0) ≤ nat_abs (x -ℤ w)) (readings_at lo us)
above lo w h [] = tt
above lo w h (u ∷ us) = (omega (arith, ints), above lo w h us)

-- a level from lo on that costs no more than any level from lo on costs the loss
module _ (g : ℕ → ℕ) (rises : Rising g) (lo : ℤ) (us : List ℕ) (v : ℕ) (best : (k : ℕ) → cost g us v ≤ cost g us k) where
  at_any : (w : ℤ) → cost g us v ≤ cost_at g (readings_at lo us) w
  at_any w =
      by_lt_z w lo
      (λ h. omega (arith, best 0, cost_is g lo us 0, nearer g rises (readings_at lo us) (placed lo 0) w (above lo w h us)))
      (λ h.
      let e : placed lo (nat_abs (w -ℤ lo)) ≡ w = omega (arith, ints) in
      let p : cost_at g (readings_at lo us) w ≡ cost g us (nat_abs (w -ℤ lo)) = ap (cost_at g (readings_at lo us)) (sym e) ∙ cost_is g lo us (nat_abs (w -ℤ lo)) in
      omega (arith, p, best (nat_abs (w -ℤ lo))))

  pub loss_is : least_of g (readings_at lo us) ≡ cost g us v
  loss_is =
      least_is_one g (readings_at lo us) (least_of g (readings_at lo us)) (cost g us v) (least_of_all g rises (readings_at lo us))
      (record { reached = (placed lo v, cost_is g lo us v); least = at_any })

pub loss_of_is : (g : ℕ → ℕ) → Rising g → (lo : ℤ) (us : List ℕ) (a b v : ℕ) → ((k : ℕ) → cost g (stretch_of us a b) v ≤ cost g (stretch_of us a b) k) → loss_of g (readings_at lo us) a b ≡ cost g (stretch_of us a b) v
loss_of_is g rises lo us a b v best = ap (least_of g) (part_held lo us a b) ∙ loss_is g rises lo (stretch_of us a b) v best

-- a level that the costs fall to, and rise from
module _ (c : ℕ → ℕ) (v : ℕ) (up : (k : ℕ) → v ≤ k → c k ≤ c (suc k)) (down : (k : ℕ) → k < v → c (suc k) ≤ c k) where
  later : (j w : ℕ) → w ≡ v + j → c v ≤ c w
  later zero w e = let i : w ≡ v = omega arith in rw i (omega arith)
  later (suc j) w e = let i : w ≡ suc (v + j) = omega arith in rw i (omega (arith, later j (v + j) refl, up (v + j) (omega arith)))

  sooner : (j k : ℕ) → v ≡ k + j → c v ≤ c k
  sooner zero k e = let i : v ≡ k = omega arith in rw i (omega arith)
  sooner (suc j) k e = omega (arith, sooner j (suc k) (omega arith), down k (omega arith))

  pub valley : (k : ℕ) → c v ≤ c k
  valley k =
      elim (leb_tells v k) [
        | inl t ↦ later (k - v) k (omega (arith, t.1))
        | inr t ↦ sooner (v - k) k (omega (arith, t.1))
      ]

pub low_part : (span : ℕ) (us : List ℕ) (a b : ℕ) → Low span us → Low span (stretch_of us a b)
low_part span us a b low = All-take (λ u. u ≤ span) (b - a) (drop a us) (All-drop (λ u. u ≤ span) a us low)

-- of the first and the rest
pub low_cons : (span u : ℕ) (us : List ℕ) → Low span (u ∷ us) → (u ≤ span) × Low span us
low_cons span u us low = (low 0 0 (omega arith), λ i d h. low (suc i) d (omega arith))
