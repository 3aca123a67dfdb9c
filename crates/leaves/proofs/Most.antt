-- The class that most readings have differs from the fewest.
use Rattle.std.proofs.Common.{◌≡◌, ℕ, ◌+◌, ◌-◌, ◌<◌, ◌≤◌, true, ◌&&◌, ltb, leb, List, [], ◌∷◌, length, get_or, pos, refl, inl, inr, arith, zero, suc, max, ◌⊎◌, map}
use Rattle.std.proofs.lemmas.Bool.Decides.{leb_tells, nat_tests}
use Rattle.leaves.specs.Readings.{differs, loss_of, stretch_of}
use Rattle.leaves.specs.LeastLevel.{rising_differs}
use Rattle.std.specs.Int.{abs_diff}
use Rattle.std.specs.List.{fold, sum_by, zip}
use Rattle.std.proofs.lemmas.Slice.Zip.{length-zip, get_or-zip}
use Rattle.std.proofs.lemmas.Bool.{cases_lt}
use Rattle.std.proofs.lemmas.List.Sums.{sum_by-cons}
use Rattle.leaves.specs.Kept.{cost, hit, Low}
use Rattle.leaves.specs.Held.{votes_readings}
use Rattle.leaves.specs.declared.votes.Votes.{Votes}
use Rattle.leaves.proofs.Answered.{stretch_tells}
use Rattle.leaves.proofs.Parts.{sum_part, length_part, low_part, low_cons, cost_more, loss_of_is}

one : (u k : ℕ) → differs (abs_diff u k) + hit k u ≡ 1
one u k = grind (arith, nat_tests)

rest : (us : List ℕ) (k : ℕ) → cost differs us k + sum_by (hit k) us ≡ length us
rest [] k = refl
rest (u ∷ us) k = omega (arith, one u k, rest us k, cost_more differs u us k, sum_by-cons (hit k) u us)

missed : (u k : ℕ) → u < k → hit k u ≡ 0
missed u k h = grind (arith, nat_tests)

no_hit : (span k : ℕ) (us : List ℕ) → span < k → Low span us → sum_by (hit k) us ≡ 0
no_hit span k [] h low = refl
no_hit span k (u ∷ us) h low =
    let l = low_cons span u us low in
    omega (arith, missed u k (omega (arith, l.0)), no_hit span k us h l.1, sum_by-cons (hit k) u us)

most_best : (us : List ℕ) (v m : ℕ) → Low 15 us → m ≡ sum_by (hit v) us → ((k : ℕ) → k < 16 → sum_by (hit k) us ≤ m) → (k : ℕ) → cost differs us v ≤ cost differs us k
most_best us v m low e top k =
    elim (leb_tells k 15) [
      | inl t ↦ omega (arith, rest us v, rest us k, top k (omega (arith, t.1)))
      | inr t ↦ omega (arith, rest us v, rest us k, no_hit 15 k us t.1 low)
    ]

-- the most votes over two rows of counts, place by place
abbrev most_of : ℕ → List (ℕ × ℕ) → ℕ
most_of a zs = fold max a (map (λ p. p.0 - p.1) zs)

grows : (a : ℕ) (zs : List (ℕ × ℕ)) → a ≤ most_of a zs
grows a [] = omega arith
grows a (p ∷ zs) = omega (arith, grows (max a (p.0 - p.1)) zs)

top_of : (a : ℕ) (zs : List (ℕ × ℕ)) (k : ℕ) (d : ℕ × ℕ) → k < length zs → (get_or zs k d).0 - (get_or zs k d).1 ≤ most_of a zs
top_of a [] k d h = absurd (omega arith)
top_of a (p ∷ zs) zero d h = omega (arith, grows (max a (p.0 - p.1)) zs)
top_of a (p ∷ zs) (suc k) d h = top_of (max a (p.0 - p.1)) zs k d (omega arith)

reached_of : (a : ℕ) (zs : List (ℕ × ℕ)) (d : ℕ × ℕ) → (most_of a zs ≡ a) ⊎ ((k : ℕ) × (k < length zs) × ((get_or zs k d).0 - (get_or zs k d).1 ≡ most_of a zs))
reached_of a [] d = inl refl
reached_of a (p ∷ zs) d = go (reached_of (max a (p.0 - p.1)) zs d) (cases_lt a (p.0 - p.1))
  where
    go :
        (most_of (max a (p.0 - p.1)) zs ≡ max a (p.0 - p.1)) ⊎ ((k : ℕ) × (k < length zs) × ((get_or zs k d).0 - (get_or zs k d).1 ≡ most_of (max a (p.0 - p.1)) zs)) →
        (a < p.0 - p.1) ⊎ (p.0 - p.1 ≤ a) →
        (most_of a (p ∷ zs) ≡ a) ⊎ ((k : ℕ) × (k < length (p ∷ zs)) × ((get_or (p ∷ zs) k d).0 - (get_or (p ∷ zs) k d).1 ≡ most_of a (p ∷ zs)))
    go (inl e) (inl l) = inr (0, omega arith, omega (arith, e))
    go (inl e) (inr l) = inl (omega (arith, e))
    go (inr r) l = inr (suc r.0, omega (arith, r.1), r.2)

-- all that the code of a stretch rests on
module _ (x : Votes) (a b i j : ℕ) (there : true ≡ (ltb a b && leb b (length x.held.distances.items))) (ia : i ≡ a) (jb : j ≡ b) where
  abbrev us : List ℕ
  us = x.held.distances.items

  ab : a < b
  ab = (stretch_tells a b (length us) there).0

  bl : b ≤ length us
  bl = (stretch_tells a b (length us) there).1

  in_stretch : (k : ℕ) → get_or (get_or x.counts j []) k 0 ≡ get_or (get_or x.counts i []) k 0 + sum_by (hit k) (stretch_of us a b)
  in_stretch k = rw (ia, jb) (omega (arith, x.tallied b k bl, x.tallied a k (omega (arith, ab, bl)), sum_part (hit k) us a b (omega (arith, ab))))

  rows_rise : (k : ℕ) → get_or (get_or x.counts i []) k 0 ≤ get_or (get_or x.counts j []) k 0
  rows_rise k = omega (arith, in_stretch k)

  -- the two rows of counts, and the most votes over them
  abbrev before : List ℕ
  before = get_or x.counts i []

  abbrev after : List ℕ
  after = get_or x.counts j []

  wide_before : length before ≡ 16
  wide_before = x.wide i (omega (arith, ab, bl, x.held.few))

  wide_after : length after ≡ 16
  wide_after = x.wide j (omega (arith, bl, x.held.few))

  long : length (zip after before) ≡ 16
  long = omega (arith, length-zip after before, wide_before, wide_after)

  abbrev m : ℕ
  m = most_of 0 (zip after before)

  at_place : (k : ℕ) → k < 16 → (get_or (zip after before) k (0, 0)).0 - (get_or (zip after before) k (0, 0)).1 ≡ get_or after k 0 - get_or before k 0
  at_place k h = rw (get_or-zip after before k (0, 0) (omega (arith, wide_after)) (omega (arith, wide_before))) refl

  top : (k : ℕ) → k < 16 → get_or after k 0 ≤ get_or before k 0 + m
  top k h = omega (arith, at_place k h, top_of 0 (zip after before) k (0, 0) (omega (arith, long)))

  reached : (k : ℕ) × (k < 16) × (get_or after k 0 ≡ get_or before k 0 + m)
  reached =
      elim (reached_of 0 (zip after before) (0, 0)) [
        | inl e ↦ (0, omega arith, omega (arith, e, top 0 (omega arith), rows_rise 0))
        | inr r ↦ (let h : r.0 < 16 = omega (arith, r.1, long) in (r.0, h, omega (arith, r.2, at_place r.0 h, rows_rise r.0)))
      ]

  pub most_is : (m ≤ b - a) × (b - a - m ≡ loss_of differs (votes_readings x) a b)
  most_is =
      let ys = stretch_of us a b in
      let v = reached.0 in
      let e : m ≡ sum_by (hit v) ys = omega (arith, reached.2, in_stretch v) in
      let n = length_part us a b bl in
      let best = most_best ys v m (low_part 15 us a b x.held.low) e (λ k t. omega (arith, top k t, in_stretch k)) in
      let t = loss_of_is differs rising_differs (pos 0) us a b v best in
      (omega (arith, e, n, rest ys v), omega (arith, e, n, rest ys v, t))
