-- The walks over the stretches of a division and over the marks: what is told so far, and what is left.
use Rattle.std.proofs.Common.{◌≡◌, ℕ, ◌+◌, ◌*◌, ◌^◌, ◌<◌, ◌≤◌, true, ltb, List, ◌++◌, length, get_or, drop, sym, vec_items, mul-le-mul, arith}
use Rattle.std.proofs.lemmas.List.{drop_more}
use Rattle.std.proofs.lemmas.Bool.Decides.{Decides-ltb}
use Rattle.loss.specs.Table.{Table}
use Rattle.division.specs.Division.{EachStretch, Division, division, sum_stretches, loss}
use Rattle.division.proofs.Listed.{below, few_boundaries}
use Rattle.division.proofs.Tested.{decides_each}
use Rattle.audit.specs.declared.price.Sum.{Sum}
use Rattle.audit.specs.Priced.{priced}

-- the stretches up to the end of the first i are in `s`
pub record Along (t : Table) (ds : List ℕ) (i : ℕ) (s : Sum) : Type 0 where
  pub rises : EachStretch (λ a b. a < b) t.length s.end (drop i ds)
  pub rest : vec_items s.stretches ++ priced t.loss t.length s.end (drop i ds) ≡ priced t.loss t.length 0 ds
  pub adds : s.loss + sum_stretches t.loss t.length s.end (drop i ds) ≡ loss t.loss t.length ds
  pub small : s.loss ≤ 2 ^ 40 * s.end

-- the next stretch ends within the line
pub next_within : (t : Table) (ds : List ℕ) (i : ℕ) (s : Sum) → Along t ds i s → i < length ds → get_or ds i 0 ≤ t.length
next_within t ds i s l h = omega (arith, below t.length (get_or ds i 0) (drop (i + 1) ds) (rw (drop_more ds i 0 h) at l.rises).1)

-- the test of the gaps says that they are a division
pub is_division : (n : ℕ) (ds : List ℕ) → true ≡ division n ds → Division n ds
is_division n ds h = (decides_each ltb (λ a b. a < b) Decides-ltb n 0 ds).0 (sym h)

-- what is added to the loss of a division for its boundaries
pub penalties_bound : (p n : ℕ) (ds : List ℕ) → p ≤ 2 ^ 49 → n ≤ 512 → true ≡ division n ds → p * length ds ≤ 2 ^ 49 * 511
penalties_bound p n ds h few d = let l : length ds ≤ 511 = omega (arith, few_boundaries n 0 ds (is_division n ds d)) in mul-le-mul h l
