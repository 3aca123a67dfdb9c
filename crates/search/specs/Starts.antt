-- The stretches from 0 to an end t, given by their starts, the last first: what they tally, and the best of them.
use Rattle.std.specs.Prelude.{◌≡◌, ℕ, ◌-◌, ◌<◌, ◌≤◌, false, ◌⊎◌, List, [], ◌∷◌}
use Rattle.tally.specs.Order.{Tallying}

-- Which stretches may follow one another. A stage says which lists of starts count: all of them, or those of so many stretches.
pub record Stages (S : Type 0) : Type 1 where
  -- the stage before the last stretch
  pub prev : S → S
  -- no stretch leads to t
  pub begins : S → ℕ → Type 0
  -- (a, t) may be the last stretch
  pub permits : S → ℕ → ℕ → Type 0
  pub at_zero : (s : S) (t : ℕ) → begins s t → t ≡ 0

-- every number of stretches
abbrev pub any_number : (ℕ → ℕ → Type 0) → Stages (Unit {0})
any_number can = record { prev = λ s. s; begins = λ s t. t ≡ 0; permits = λ s a t. can a t; at_zero = λ s t e. e }

-- exactly s stretches
abbrev pub exactly : (ℕ → ℕ → Type 0) → Stages ℕ
exactly can = record { prev = λ s. s - 1; begins = λ s t. (s ≡ 0) × (t ≡ 0); permits = λ s a t. (0 < s) × can a t; at_zero = λ s t e. e.1 }

-- the list has the starts of permitted stretches from 0 to t
abbrev pub Starts : {S : Type 0} → Stages S → S → ℕ → List ℕ → Type 0
Starts n s t [] = n.begins s t
Starts n s t (a ∷ more) = (a < t) × n.permits s a t × Starts n (n.prev s) a more

-- what those stretches tally
abbrev pub tally_of : {V : Type 0} → Tallying V → ℕ → List ℕ → V
tally_of m t [] = m.zero
tally_of m t (a ∷ more) = m.step a t (tally_of m a more)

-- No starts to t tally less, none that tally as much have a later last start, and so on from the last start back.
abbrev pub Best : {V S : Type 0} → Tallying V → Stages S → S → ℕ → List ℕ → Type 0
Best m n s t [] = n.begins s t
Best m n s t (a ∷ more) =
    (a < t) × n.permits s a t
    × ((es : List ℕ) → Starts n s t es → m.below (tally_of m t es) (tally_of m t (a ∷ more)) ≡ false)
    × ((b : ℕ) (bs : List ℕ) → Starts n s t (b ∷ bs) → tally_of m t (b ∷ bs) ≡ tally_of m t (a ∷ more) → b ≤ a)
    × Best m n (n.prev s) a more

-- es is ds, or at the first difference, from the last start back, ds has the later start
abbrev pub NoLater : List ℕ → List ℕ → Type 0
NoLater [] [] = Unit {0}
NoLater [] (a ∷ more) = ⊥
NoLater (b ∷ bs) [] = ⊥
NoLater (b ∷ bs) (a ∷ more) = (b < a) ⊎ ((b ≡ a) × NoLater bs more)

-- ds are starts to t, no others tally less, and of those that tally as much ds are the latest from the last start back
abbrev pub WinningStarts : {V S : Type 0} → Tallying V → Stages S → S → ℕ → List ℕ → Type 0
WinningStarts m n s t ds =
    Starts n s t ds
    × ((es : List ℕ) → Starts n s t es → m.below (tally_of m t es) (tally_of m t ds) ≡ false)
    × ((es : List ℕ) → Starts n s t es → tally_of m t es ≡ tally_of m t ds → NoLater es ds)

-- the starts fall from t to 0
abbrev pub Falling : ℕ → List ℕ → Type 0
Falling t [] = t ≡ 0
Falling t (a ∷ more) = (a < t) × Falling a more

-- the boundaries between the stretches, in rising order, put before more: the starts but the first, which is 0
abbrev pub boundaries_of : List ℕ → List ℕ → List ℕ
boundaries_of [] more = more
boundaries_of (a ∷ []) more = more
boundaries_of (a ∷ b ∷ starts) more = boundaries_of (b ∷ starts) (a ∷ more)
