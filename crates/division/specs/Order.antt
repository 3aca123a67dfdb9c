-- Which of two divisions is better: the cheaper, then the one with fewer boundaries, then the one with the later last boundary,
-- then the later one before it, and so on.
use Rattle.std.specs.Prelude.{◌≡◌, ℕ, ◌<◌, Bool, true, false, ◌&&◌, ◌||◌, ◌⊎◌, List, [], ◌∷◌, ◌++◌, ◌==◌, nat_lt}

-- fewer boundaries; of as many, the later where they last differ: what stands behind decides first
abbrev pub Later : List ℕ → List ℕ → Type 0
Later [] [] = ⊥
Later [] (y ∷ ys) = Unit {0}
Later (x ∷ xs) [] = ⊥
Later (x ∷ xs) (y ∷ ys) = Later xs ys ⊎ ((xs ≡ ys) × (y < x))

-- the two lists are the same
abbrev pub same : List ℕ → List ℕ → Bool
same [] [] = true
same [] (y ∷ ys) = false
same (x ∷ xs) [] = false
same (x ∷ xs) (y ∷ ys) = x == y && same xs ys

abbrev pub later : List ℕ → List ℕ → Bool
later [] [] = false
later [] (y ∷ ys) = true
later (x ∷ xs) [] = false
later (x ∷ xs) (y ∷ ys) = later xs ys || (same xs ys && nat_lt y x)

-- d beats e: it costs less, or as much and is `Later`
abbrev pub Beats : (List ℕ → ℕ) → List ℕ → List ℕ → Type 0
Beats cost d e = (cost d < cost e) ⊎ ((cost d ≡ cost e) × Later d e)

abbrev pub beats : (List ℕ → ℕ) → List ℕ → List ℕ → Bool
beats cost d e = nat_lt (cost d) (cost e) || (cost d == cost e && later d e)

-- behind the last place where d and e differ all is alike, and at that place d's boundary is the later
pub record LaterWhereTheyLastDiffer (d e : List ℕ) : Type 0 where
  pub front_d : List ℕ
  pub front_e : List ℕ
  pub x : ℕ
  pub y : ℕ
  pub rest : List ℕ
  pub d_is : d ≡ front_d ++ x ∷ rest
  pub e_is : e ≡ front_e ++ y ∷ rest
  pub later : y < x
