-- Marks, and the divisions that they and the shortest stretch allow.
use Rattle.std.specs.Prelude.{◌≡◌, ℕ, suc, ◌<◌, ◌≤◌, Bool, cond, ◌&&◌, List, [], ◌∷◌, ◌==◌, nat_le, nat_lt}
use Rattle.std.specs.List.{AllByRecursion, list_all}
use Rattle.division.specs.declared.mark.Mark.{Mark}
use Rattle.division.specs.Division.{Division, division, LongEnough, long_enough}

-- the gap g is one of first to last - 1, which the mark covers
abbrev pub Covers : Mark → ℕ → Type 0
Covers k g = (k.first ≤ g) × (g < k.last)

abbrev pub covers : Mark → ℕ → Bool
covers k g = nat_le k.first g && nat_lt g k.last

-- how many of the gaps that the mark covers are boundaries of ds
abbrev pub boundaries_in : Mark → List ℕ → ℕ
boundaries_in k [] = 0
boundaries_in k (d ∷ ds) = cond (covers k d) (suc (boundaries_in k ds)) (boundaries_in k ds)

-- exactly as many as the mark says
abbrev pub Obeys : List ℕ → Mark → Type 0
Obeys ds k = boundaries_in k ds ≡ k.boundaries

abbrev pub obeys : List ℕ → Mark → Bool
obeys ds k = boundaries_in k ds == k.boundaries

abbrev pub obeys_all : List ℕ → List Mark → Bool
obeys_all ds marks = list_all (obeys ds) marks

-- ds is allowed: a division of n readings, each stretch of at least m readings, that obeys every mark
pub record Allowed (marks : List Mark) (m n : ℕ) (ds : List ℕ) : Type 0 where
  pub division : Division n ds
  pub long_enough : LongEnough m n ds
  pub obeyed : AllByRecursion (Obeys ds) marks

abbrev pub allowed : List Mark → ℕ → ℕ → List ℕ → Bool
allowed marks m n ds = division n ds && (long_enough m n ds && obeys_all ds marks)
