-- A division of n readings: a rising list of gaps, each from 1 to n - 1. Gap i lies between reading i and reading i + 1.
-- Stretch (a, b) holds the readings a + 1 to b. The stretches of ds, from a on, are the neighbours in a ∷ ds ++ n ∷ [].
use Rattle.std.specs.Prelude.{ℕ, zero, suc, ◌+◌, ◌<◌, ◌≤◌, Bool, ◌&&◌, List, [], ◌∷◌, ◌++◌, map, nat_le, nat_lt}

-- P of every stretch
abbrev pub EachStretch : (ℕ → ℕ → Type 0) → ℕ → ℕ → List ℕ → Type 0
EachStretch P n a [] = P a n
EachStretch P n a (b ∷ ds) = P a b × EachStretch P n b ds

-- the same as a test
abbrev pub each_stretch : (ℕ → ℕ → Bool) → ℕ → ℕ → List ℕ → Bool
each_stretch p n a [] = p a n
each_stretch p n a (b ∷ ds) = p a b && each_stretch p n b ds

-- the sum of f over the stretches
abbrev pub sum_stretches : (ℕ → ℕ → ℕ) → ℕ → ℕ → List ℕ → ℕ
sum_stretches f n a [] = f a n
sum_stretches f n a (b ∷ ds) = f a b + sum_stretches f n b ds

-- ds is a division of n readings: no stretch is empty
abbrev pub Division : ℕ → List ℕ → Type 0
Division n ds = EachStretch (λ a b. a < b) n 0 ds

abbrev pub division : ℕ → List ℕ → Bool
division n ds = each_stretch nat_lt n 0 ds

-- every stretch holds at least m readings
abbrev pub LongEnough : ℕ → ℕ → List ℕ → Type 0
LongEnough m n ds = EachStretch (λ a b. a + m ≤ b) n 0 ds

abbrev pub long_enough : ℕ → ℕ → List ℕ → Bool
long_enough m n ds = each_stretch (λ a b. nat_le (a + m) b) n 0 ds

-- the loss of a division, by the table f of the stretches' losses
abbrev pub loss : (ℕ → ℕ → ℕ) → ℕ → List ℕ → ℕ
loss f n ds = sum_stretches f n 0 ds

-- every rising list of gaps from the k gaps g, g + 1, ..
abbrev pub choices : ℕ → ℕ → List (List ℕ)
choices g zero = [] ∷ []
choices g (suc k) = choices (suc g) k ++ map (λ ds. g ∷ ds) (choices (suc g) k)

-- every division of n readings (shut, so that no tactic lists them at a written n)
unfoldable pub all_divisions : ℕ → List (List ℕ)
all_divisions zero = []
all_divisions (suc k) = choices 1 k
