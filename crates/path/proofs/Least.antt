-- The numbers that the search leaves are the least losses by count, and fit the steps.
use Rattle.std.proofs.Common.{◌≡◌, ℕ, ◌+◌, ◌-◌, ◌*◌, ◌^◌, ◌<◌, ◌≤◌, List, [], ◌∷◌, length, get_or, take, drop, Some, None, Option, sym, refl, ap, ◌∙◌, inl, inr, arith}
use Rattle.std.specs.Option.{option_map}
use Rattle.std.proofs.lemmas.List.{length-take, length-drop, get_or-take, get_or-drop}
use Rattle.std.proofs.lemmas.Bool.Decides.{eqb_tells}
use Rattle.loss.specs.Table.{Table, Sound}
use Rattle.loss.proofs.Bounds.{stretch_bound}
use Rattle.division.specs.declared.mark.Mark.{Mark}
use Rattle.division.specs.Division.{EachStretch, sum_stretches, loss}
use Rattle.division.specs.Winner.{by_count, total, winner}
use Rattle.division.proofs.Best.{winner_wins, candidate_divides}
use Rattle.division.proofs.Listed.{below}
use Rattle.tally.specs.Entries.{loss_held}
use Rattle.envelope.specs.Next.{Fit, FitLoss}
use Rattle.envelope.specs.Path.{present, losses_in, largest_penalty}
use Rattle.path.specs.Cuts.{loss_if_any, least_loss}

-- a division of a light loss loses no more than 2^40 for each reading
division_bound : (t : Table) → Sound t → t.ceiling ≤ 2 ^ 40 → (n : ℕ) → n ≤ t.length → (a : ℕ) (ds : List ℕ) → EachStretch (λ x y. x < y) n a ds → 2 ^ 40 * a + sum_stretches t.loss n a ds ≤ 2 ^ 40 * n
division_bound t sound light n long a [] h = stretch_bound t sound a n light h long
division_bound t sound light n long a (b ∷ ds) h =
    let bn = below n b ds h.1 in
    omega (arith, stretch_bound t sound a b light h.0 (omega (arith, bn)), division_bound t sound light n long b ds h.1)

-- the part of the numbers that holds the least losses
abbrev pub row_of : ℕ → List ℕ → List ℕ
row_of n numbers = take (2 * (n + 1) + n - 2 * (n + 1)) (drop (2 * (n + 1)) numbers)

pub row_length : (n : ℕ) (numbers : List ℕ) → 3 * (n + 1) ≤ length numbers → length (row_of n numbers) ≡ n
row_length n numbers h = simp (length-take, length-drop) (omega arith)

row_at : (n : ℕ) (numbers : List ℕ) (k : ℕ) → k < n → get_or (row_of n numbers) k 0 ≡ get_or numbers (2 * (n + 1) + k) 0
row_at n numbers k h = let lt : k < 2 * (n + 1) + n - 2 * (n + 1) = omega arith in get_or-take _ (drop (2 * (n + 1)) numbers) k 0 lt ∙ get_or-drop (2 * (n + 1)) numbers k 0

by_cases : (f : ℕ → ℕ → ℕ) (n k : ℕ) (o : Option (List ℕ)) → option_map (total (by_count k) f n) o ≡ loss_if_any f n o
by_cases f n k None = refl
by_cases f n k (Some d) = refl

-- what the search says of the numbers
abbrev pub Left : (ℕ → ℕ → ℕ) → List Mark → ℕ → ℕ → List ℕ → Type 0
Left f marks m n numbers = (k : ℕ) → k < n → loss_held numbers (2 * (n + 1) + k) ≡ option_map (total (by_count k) f n) (winner (by_count k) f marks m n)

pub row_losses : (f : ℕ → ℕ → ℕ) (marks : List Mark) (m n : ℕ) (numbers : List ℕ) → Left f marks m n numbers → (k : ℕ) → k < n → losses_in (row_of n numbers) k ≡ least_loss f marks m n k
row_losses f marks m n numbers h k lt = ap present (row_at n numbers k lt) ∙ h k lt ∙ by_cases f n k (winner (by_count k) f marks m n)

module _ (t : Table) (sound : Sound t) (light : t.ceiling ≤ 2 ^ 40) (marks : List Mark) (m n : ℕ) (few : n ≤ 512) (long : n ≤ t.length) where
  won_small : (k : ℕ) (o : Option (List ℕ)) (x : ℕ) → winner (by_count k) t.loss marks m n ≡ o → loss_if_any t.loss n o ≡ Some x → x ≤ largest_penalty
  won_small k None x e h = let z : ◌≡◌ {A = ℕ} 0 1 = cc in absurd (omega arith)
  won_small k (Some d) x e h =
      let c = (((winner_wins (by_count k) t.loss marks m n).wins d).0 e).candidate in
      let b = division_bound t sound light n long 0 d (candidate_divides (by_count k) marks m n d c) in
      let q : loss t.loss n d ≡ x = cc in
      omega (arith, b, q)

  small : (numbers : List ℕ) → Left t.loss marks m n numbers → (k : ℕ) → k < n → FitLoss (get_or (row_of n numbers) k 0)
  small numbers h k lt =
      let x = get_or (row_of n numbers) k 0 in
      elim (eqb_tells x 18446744073709551615) [
        | inl e ↦ inr e.1
        | inr e ↦ (
            let p : present x ≡ Some x = simp e.0 in
            inl (won_small k (winner (by_count k) t.loss marks m n) x refl (sym (row_losses t.loss marks m n numbers h k lt) ∙ p)))
      ]

  pub row_fits : (numbers : List ℕ) → 3 * (n + 1) ≤ length numbers → Left t.loss marks m n numbers → Fit (row_of n numbers)
  row_fits numbers room h =
      let l = row_length n numbers room in
      record { short = omega (arith, l); small = λ k lt. small numbers h k (omega (arith, l)) }
