-- The level next to the mean costs the least sum of squares.
use Rattle.std.proofs.Common.{◌≡◌, ℕ, zero, suc, ◌+◌, ◌-◌, ◌*◌, ◌/◌, ◌%◌, ◌<◌, ◌≤◌, ◌⊎◌, true, ◌&&◌, ltb, leb, List, [], ◌∷◌, length, get_or, take, sym, refl, ap, ◌∙◌, inl, inr, mod-lt, mul_assoc, suc-mul, mul-le-mul, mul-le-mul_left, mul-zero, zero-mul, mul-one, mul-suc, mul-add, arith}
use native.Mathlib.Nat.{div-add-mod}
use Rattle.std.proofs.lemmas.Bool.Decides.{leb_tells}
use Rattle.std.proofs.lemmas.List.{length-take}
use Rattle.leaves.specs.declared.squares.Squares.{Squares}
use Rattle.leaves.specs.Held.{squares_readings}
use Rattle.leaves.specs.Readings.{lowest, square, loss_of, stretch_of}
use Rattle.leaves.specs.LeastLevel.{rising_square}
use Rattle.std.specs.Int.{abs_diff}
use Rattle.std.specs.List.{sum_by}
use Rattle.std.proofs.lemmas.List.Sums.{sum_by-cons, sum_by-le}
use Rattle.std.proofs.lemmas.List.Elements.{All-take}
use Rattle.leaves.specs.declared.squares.Sums.{Sums}
use Rattle.leaves.specs.Kept.{cost, itself, squared, sums_of, nearest, Low}
use Rattle.leaves.proofs.Answered.{stretch_tells}
use Rattle.leaves.proofs.Parts.{sum_part, length_part, loss_of_is, valley, low_part, cost_more}

sq_suc : (d : ℕ) → suc d * suc d ≡ d * d + (d + d + 1)
sq_suc d = omega (arith, suc-mul d (suc d), mul-suc d d)

-- one level up, at one reading
sq_step : (u k : ℕ) → square (abs_diff u (suc k)) + (u + u) ≡ square (abs_diff u k) + (k + k + 1)
sq_step u k =
    let d = abs_diff u k in
    let e = abs_diff u (suc k) in
    elim (leb_tells u k) [
      | inl h ↦ (let i : e ≡ suc d = omega (arith, h.1) in let j : e * e ≡ suc d * suc d = ap (λ n. n * n) i in omega (arith, j, sq_suc d, h.1))
      | inr h ↦ (let i : d ≡ suc e = omega (arith, h.1) in let j : d * d ≡ suc e * suc e = ap (λ n. n * n) i in omega (arith, j, sq_suc e, h.1))
    ]

step : (us : List ℕ) (k : ℕ) → cost square us (suc k) + (sum_by itself us + sum_by itself us) ≡ cost square us k + length us * (k + k + 1)
step [] k = omega (arith, zero-mul (k + k + 1))
step (u ∷ us) k =
    omega (arith, sq_step u k, step us k, suc-mul (length us) (k + k + 1), cost_more square u us k, cost_more square u us (suc k), sum_by-cons itself u us)

at_zero : (us : List ℕ) → cost square us 0 ≡ sum_by squared us
at_zero [] = refl
at_zero (u ∷ us) =
    let d : abs_diff u 0 ≡ u = omega arith in
    let e : square (abs_diff u 0) ≡ u * u = ap (λ n. n * n) d in
    omega (arith, e, at_zero us, cost_more square u us 0, sum_by-cons squared u us)

-- the cost at a level, from the two sums
closed : (us : List ℕ) (k : ℕ) → cost square us k + (k * sum_by itself us + k * sum_by itself us) ≡ sum_by squared us + length us * (k * k)
closed us zero = omega (arith, at_zero us, zero-mul (sum_by itself us), mul-zero (length us))
closed us (suc k) =
    let n = length us in
    let e : n * (suc k * suc k) ≡ n * (k * k) + n * (k + k + 1) = ap (λ (m : ℕ). n * m) (sq_suc k) ∙ mul-add n (k * k) (k + k + 1) in
    omega (arith, closed us k, step us k, suc-mul k (sum_by itself us), e)

best : (us : List ℕ) (v : ℕ) → sum_by itself us + sum_by itself us ≤ length us * (v + v + 1)
    → ((k : ℕ) → k < v → length us * (k + k + 1) ≤ sum_by itself us + sum_by itself us) → (k : ℕ) → cost square us v ≤ cost square us k
best us v hi lo =
    valley (cost square us) v
    (λ k h. let less : length us * (v + v + 1) ≤ length us * (k + k + 1) = mul-le-mul_left (length us) (omega arith) in omega (arith, less, step us k))
    (λ k h. omega (arith, step us k, lo k h))

-- the level that the code takes
abbrev near : ℕ → ℕ → ℕ → Type 0
near s n v = ((s % n + s % n ≤ n) × (v ≡ s / n)) ⊎ ((n < s % n + s % n) × (v ≡ s / n + 1))

near_best : (us : List ℕ) (n s v : ℕ) → n ≡ length us → s ≡ sum_by itself us → 0 < n → near s n v → (k : ℕ) → cost square us v ≤ cost square us k
near_best us n s v en es pos-n way =
    let d = div-add-mod s n in
    let m = mod-lt s pos-n in
    let q = s / n in
    elim way [
      | inl w ↦ best us v
          (let e : n * (v + v + 1) ≡ n * v + n * v + n = omega (arith, mul-add n (v + v) 1, mul-add n v v, mul-one n) in
          let f : n * v ≡ n * q = ap (λ (k : ℕ). n * k) w.1 in
          rw (← en, ← es) (omega (arith, e, f, d, w.0)))
          (λ k lt.
          let le : n * (k + k + 1) ≤ n * (v + v) = mul-le-mul_left n (omega arith) in
          let f : n * v ≡ n * q = ap (λ (k : ℕ). n * k) w.1 in
          rw (← en, ← es) (omega (arith, le, mul-add n v v, f, d)))
      | inr w ↦ best us v
          (let f : n * v ≡ n * q + n = ap (λ (k : ℕ). n * k) w.1 ∙ mul-add n q 1 ∙ ap (λ (k : ℕ). n * q + k) (mul-one n) in
          let e : n * (v + v + 1) ≡ n * v + n * v + n = omega (arith, mul-add n (v + v) 1, mul-add n v v, mul-one n) in
          rw (← en, ← es) (omega (arith, e, f, d, m)))
          (λ k lt.
          let le : n * (k + k + 1) ≤ n * (q + q + 1) = mul-le-mul_left n (omega (arith, w.1)) in
          let e : n * (q + q + 1) ≡ n * q + n * q + n = omega (arith, mul-add n (q + q) 1, mul-add n q q, mul-one n) in
          rw (← en, ← es) (omega (arith, le, e, d, w.0)))
    ]

nearest_near : (s n : ℕ) → near s n (nearest s n)
nearest_near s n =
    elim (leb_tells (s % n + s % n) n) [
      | inl t ↦ (let e = t.0 in inl (t.1, simp e))
      | inr t ↦ (let e = t.0 in inr (t.1, simp e))
    ]

sum_small : (f : ℕ → ℕ) (m : ℕ) (us : List ℕ) → ((u : ℕ) → u ≤ 65535 → f u ≤ m) → Low 65535 us → sum_by f us ≤ length us * m
sum_small f m us each low = sum_by-le f m us (λ i d h. each (get_or us i d) (low i d h))

-- of the first b
small_front : (f : ℕ → ℕ) (m : ℕ) (us : List ℕ) → ((u : ℕ) → u ≤ 65535 → f u ≤ m) → Low 65535 us → (b : ℕ) → b ≤ length us → sum_by f (take b us) ≤ b * m
small_front f m us each low b bl =
    let n : length (take b us) ≡ b = omega (arith, length-take b us) in
    let s = sum_small f m (take b us) each (All-take (λ u. u ≤ 65535) b us low) in
    rw n at s

square_small : (u : ℕ) → u ≤ 65535 → u * u ≤ 4294836225
square_small u t = let p : u * u ≤ 65535 * 65535 = mul-le-mul t t in omega arith

sums_fit : (us : List ℕ) → Low 65535 us → (b : ℕ) → b ≤ length us → sum_by itself (take b us) ≤ b * 65535
sums_fit us low b bl = small_front itself 65535 us (λ u t. t) low b bl

squares_fit : (us : List ℕ) → Low 65535 us → (b : ℕ) → b ≤ length us → sum_by squared (take b us) ≤ b * 4294836225
squares_fit us low b bl = small_front squared 4294836225 us (λ u t. square_small u t) low b bl

part_small : (us : List ℕ) → Low 65535 us → (a b : ℕ) → b ≤ length us → sum_by itself (stretch_of us a b) ≤ (b - a) * 65535
part_small us low a b bl =
    let s = sum_small itself 65535 (stretch_of us a b) (λ u t. t) (low_part 65535 us a b low) in
    rw (length_part us a b bl) at s

abbrev none : Sums
none = record { distances = 0; squares = 0 }

-- the sums at a place
module _ (x : Squares) where
  abbrev us : List ℕ
  us = x.held.distances.items

  pub record At (n : ℕ) (s : Sums) : Type 0 where
    pub distances : s.distances ≡ sum_by itself (take n us)
    pub squares : s.squares ≡ sum_by squared (take n us)
    pub distances_low : s.distances ≤ n * 65535
    pub squares_low : s.squares ≤ n * 4294836225

  pub at : (i n : ℕ) → i ≡ n → n ≤ length us → At n (get_or x.before i none)
  at i n e le =
      let s : get_or x.before i none ≡ sums_of (take n us) = rw e (x.adds n none le) in
      let d : (get_or x.before i none).distances ≡ sum_by itself (take n us) = ap (λ (z : Sums). z.distances) s in
      let q : (get_or x.before i none).squares ≡ sum_by squared (take n us) = ap (λ (z : Sums). z.squares) s in
      record { distances = d; squares = q; distances_low = omega (arith, d, sums_fit us x.held.low n le); squares_low = omega (arith, q, squares_fit us x.held.low n le) }

  -- all that the code of a stretch rests on, from the sums before its two ends
  pub record Found (a b : ℕ) (s t : Sums) : Type 0 where
    pub rises : a < b
    pub few : b - a ≤ 512
    pub sums : s.distances ≤ t.distances
    pub squares : s.squares ≤ t.squares
    pub sum_low : t.distances - s.distances ≤ (b - a) * 65535
    pub square_low : t.squares - s.squares ≤ 512 * 4294836225
    pub value : (v : ℕ) → v ≡ nearest (t.distances - s.distances) (b - a)
        → loss_of square (squares_readings x) a b + 2 * v * (t.distances - s.distances) ≡ t.squares - s.squares + (b - a) * v * v

  pub found : (a b i j : ℕ) → true ≡ (ltb a b && leb b (length us)) → i ≡ a → j ≡ b → Found a b (get_or x.before i none) (get_or x.before j none)
  found a b i j h ia jb =
      let there = stretch_tells a b (length us) h in
      let ab = there.0 in
      let bl = there.1 in
      let s = get_or x.before i none in
      let t = get_or x.before j none in
      let sa = at i a ia (omega arith) in
      let tb = at j b jb bl in
      let n = b - a in
      let few = x.held.few in
      let ys = stretch_of us a b in
      let long = length_part us a b bl in
      let p1 = sum_part itself us a b (omega arith) in
      let p2 = sum_part squared us a b (omega arith) in
      let ds = t.distances - s.distances in
      let dq = t.squares - s.squares in
      let e1 : ds ≡ sum_by itself ys = omega (arith, sa.distances, tb.distances, p1) in
      let e2 : dq ≡ sum_by squared ys = omega (arith, sa.squares, tb.squares, p2) in
      record {
        rises = ab;
        few = omega arith;
        sums = omega (arith, sa.distances, tb.distances, p1);
        squares = omega (arith, sa.squares, tb.squares, p2);
        sum_low = omega (arith, e1, part_small us x.held.low a b bl);
        square_low = omega (arith, tb.squares_low);
        value = λ v e.
            let way : near ds n v = rw e (nearest_near ds n) in
            let l = loss_of_is square rising_square lowest us a b v (near_best ys n ds v (sym long) e1 (omega arith) way) in
            let c : cost square ys v + (v * ds + v * ds) ≡ dq + n * (v * v) = rw (e1, e2) (closed ys v ∙ ap (λ (z : ℕ). sum_by squared ys + z * (v * v)) long) in
            omega (arith, l, c, mul_assoc n v v, mul_assoc 2 v ds);
      }
