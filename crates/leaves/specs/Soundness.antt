-- Readings are a sound loss by any price that rises.
use Rattle.std.specs.Prelude.{◌≡◌, ℕ, ◌-◌, ◌*◌, ◌^◌, ◌≤◌, List, [], ◌∷◌, length, drop, ℤ, pos, ◌-ℤ◌, slice_index_or, unsigned_abs}
use Rattle.std.proofs.Common.{mul-le-mul_left, mul-suc, mul-zero, arith}
use Rattle.std.proofs.lemmas.Int.{ints}
use Rattle.std.proofs.lemmas.List.{length-take, length-map}
use Rattle.std.proofs.ByRecursion.{All-take, All-drop, All-map, All-from_get_or}
use Rattle.std.specs.List.{AllByRecursion}
use Rattle.leaves.specs.Readings.{cost_at, least_of, Rising, Between, stretch_of, table_of, lowest, square, distance, differs}
use Rattle.leaves.specs.LeastLevel.{least_of_all, rising_square, rising_distance, rising_differs}
use Rattle.leaves.specs.declared.squares.Squares.{Squares}
use Rattle.leaves.specs.declared.distances.Distances.{Distances}
use Rattle.leaves.specs.declared.votes.Votes.{Votes}
use Rattle.leaves.specs.Held.{squares_readings, distances_readings, votes_readings}
use Rattle.loss.specs.Table.{Sound}
use Rattle.leaves.specs.Kept.{placed, Low, readings_at}

module _ (g : ℕ → ℕ) (rises : Rising g) (c : ℕ) (lo : ℤ) (span : ℕ) (most : g span ≤ c) where
  at_lowest : (xs : List ℤ) → AllByRecursion (Between lo span) xs → cost_at g xs lo ≤ c * length xs
  at_lowest [] h = omega (arith, mul-zero c)
  at_lowest (x ∷ xs) h =
      let b = h.0 in
      let d : unsigned_abs (x -ℤ lo) ≤ span = omega (arith, ints, b.0, b.1) in
      let p : g (unsigned_abs (x -ℤ lo)) ≤ g span = rises (unsigned_abs (x -ℤ lo)) span d in
      omega (arith, p, most, at_lowest xs h.1, mul-suc c (length xs))

  pub leaf_sound : (xs : List ℤ) → c ≤ 2 ^ 40 → length xs ≤ 512 → AllByRecursion (Between lo span) xs → Sound (table_of g c xs)
  leaf_sound xs light few fit = record {
    short = omega arith;
    light = omega arith;
    under = λ a b low ab bl.
        let ys = stretch_of xs a b in
        let l : least_of g ys ≤ cost_at g ys lo = (least_of_all g rises ys).least lo in
        let m : cost_at g ys lo ≤ c * length ys = at_lowest ys (All-take (Between lo span) (b - a) (drop a xs) (All-drop (Between lo span) a xs fit)) in
        let n : c * length ys ≤ c * (b - a) = mul-le-mul_left c (rw length-take (omega arith)) in
        omega (arith, l, m, n);
  }

-- readings whose distances from lo are at most span are levels from lo to lo + span
pub held_between : (lo : ℤ) (span : ℕ) (us : List ℕ) → Low span us → AllByRecursion (Between lo span) (readings_at lo us)
held_between lo span us low =
    All-map (Between lo span) (placed lo) us
    (All-from_get_or (λ u. Between lo span (placed lo u)) us 0
    (λ i h.
    let l : slice_index_or us i 0 ≤ span = low i 0 h in
    (omega (arith, ints), omega (arith, ints))))

pub length_held : (lo : ℤ) (us : List ℕ) → length (readings_at lo us) ≡ length us
length_held lo us = simp length-map

pub held_sound : (g : ℕ → ℕ) → Rising g → (c : ℕ) (lo : ℤ) (span : ℕ) → g span ≤ c → c ≤ 2 ^ 40 → (us : List ℕ) → length us ≤ 512 → Low span us → Sound (table_of g c (readings_at lo us))
held_sound g rises c lo span most light us few low =
    leaf_sound g rises c lo span most (readings_at lo us) light (simp length-map few) (held_between lo span us low)

pub squares_few : (s : Squares) → length (squares_readings s) ≤ 512
squares_few s = simp length-map s.held.few

pub distances_few : (s : Distances) → length (distances_readings s) ≤ 512
distances_few s = simp length-map s.held.few

pub votes_few : (s : Votes) → length (votes_readings s) ≤ 512
votes_few s = simp length-map s.held.few

pub squares_sound : (s : Squares) → Sound (table_of square (2 ^ 32) (squares_readings s))
squares_sound s = held_sound square rising_square (2 ^ 32) lowest 65535 (omega arith) (omega arith) s.held.distances.items s.held.few s.held.low

pub distances_sound : (s : Distances) → Sound (table_of distance 65535 (distances_readings s))
distances_sound s = held_sound distance rising_distance 65535 lowest 65535 (omega arith) (omega arith) s.held.distances.items s.held.few s.held.low

pub votes_sound : (s : Votes) → Sound (table_of differs 1 (votes_readings s))
votes_sound s = held_sound differs rising_differs 1 (pos 0) 15 (omega arith) (omega arith) s.held.distances.items s.held.few s.held.low
