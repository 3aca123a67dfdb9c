-- The path. `losses k` is the least loss with k boundaries, or None; a count is one of 0 to n - 1.
use Rattle.std.specs.Prelude.{◌≡◌, ℕ, zero, suc, ◌+◌, ◌*◌, ◌^◌, ◌<◌, ◌≤◌, cond, ◌≢◌, List, [], ◌∷◌, ◌++◌, Some, None, Option, ◌==◌, nat_le, nat_lt, slice_index}
use Rattle.envelope.specs.declared.Step.{Step}

-- what a count costs at the penalty p
abbrev pub cost_of : ℕ → ℕ → ℕ → ℕ
cost_of p count loss = loss + p * count

-- the better of the best so far and the count k, at the penalty p: the earlier count keeps its place at a tie
abbrev pub better_count : ℕ → Option Step → ℕ → Option ℕ → Option Step
better_count p best k None = best
better_count p None k (Some l) = Some (record { penalty = p; count = k; loss = l })
better_count p (Some s) k (Some l) = Some (cond (nat_lt (cost_of p k l) (cost_of p s.count s.loss)) (record { penalty = p; count = k; loss = l }) s)

-- the count with the least cost_of at p, of 0 to n - 1, with its loss
abbrev pub path_at : (ℕ → Option ℕ) → ℕ → ℕ → Option Step
path_at losses p zero = None
path_at losses p (suc n) = better_count p (path_at losses p n) n (losses n)

abbrev pub path_count : (ℕ → Option ℕ) → ℕ → ℕ → Option ℕ
path_count losses p n = elim (path_at losses p n) [ None ↦ None | Some s ↦ Some s.count ]

abbrev pub path_loss : (ℕ → Option ℕ) → ℕ → ℕ → Option ℕ
path_loss losses p n = elim (path_at losses p n) [ None ↦ None | Some s ↦ Some s.loss ]

-- s has the least cost_of at the penalty p; one with fewer boundaries costs more
pub record Cheapest (losses : ℕ → Option ℕ) (n p : ℕ) (s : Step) : Type 0 where
  pub penalty_is : s.penalty ≡ p
  pub below : s.count < n
  pub held : losses s.count ≡ Some s.loss
  pub least : (j m : ℕ) → j < n → losses j ≡ Some m → cost_of p s.count s.loss ≤ cost_of p j m
  pub fewest : (j m : ℕ) → j < s.count → losses j ≡ Some m → cost_of p s.count s.loss < cost_of p j m

-- the largest penalty
abbrev pub largest_penalty : ℕ
largest_penalty = 2 ^ 49

-- what a list of steps says of the penalty p: the count and loss of the last step that p has reached
abbrev pub or_later : Step → Option Step → Option Step
or_later s None = Some s
or_later s (Some t) = Some t

abbrev pub reached : ℕ → List Step → Option Step
reached p [] = None
reached p (s ∷ ss) = cond (nat_le s.penalty p) (or_later s (reached p ss)) None

abbrev pub read : ℕ → Option Step → Option Step
read p None = None
read p (Some s) = Some (record { penalty = p; count = s.count; loss = s.loss })

-- the steps name the count and the loss at every penalty
abbrev pub Names : (ℕ → Option ℕ) → ℕ → List Step → Type 0
Names losses n ss = (p : ℕ) → p ≤ largest_penalty → read p (reached p ss) ≡ path_at losses p n

-- the first step stands at 0, penalties rise up to the largest_penalty, and neighbours differ in count
abbrev pub Rising : Step → List Step → Type 0
Rising s [] = Unit {0}
Rising s (t ∷ ts) = (s.penalty < t.penalty) × (t.penalty ≤ largest_penalty) × (s.count ≢ t.count) × Rising t ts

abbrev pub Canonical : List Step → Type 0
Canonical [] = Unit {0}
Canonical (s ∷ ss) = (s.penalty ≡ 0) × Rising s ss

pub record Path (losses : ℕ → Option ℕ) (n : ℕ) (ss : List Step) : Type 0 where
  pub names : Names losses n ss
  pub canonical : Canonical ss

-- the same list, defined: a step for each penalty whose count is not that of the penalty before
abbrev pub begun_at : Option Step → Option Step → List Step
begun_at before None = []
begun_at None (Some s) = s ∷ []
begun_at (Some b) (Some s) = cond (b.count == s.count) [] (s ∷ [])

abbrev pub begins_at : (ℕ → Option ℕ) → ℕ → ℕ → List Step
begins_at losses n zero = begun_at None (path_at losses 0 n)
begins_at losses n (suc p) = begun_at (path_at losses p n) (path_at losses (suc p) n)

-- the steps that open below the penalty q; shut, so that no tactic counts up to a written q
unfoldable pub steps_below : (ℕ → Option ℕ) → ℕ → ℕ → List Step
steps_below losses n zero = []
steps_below losses n (suc p) = steps_below losses n p ++ begins_at losses n p

abbrev pub path_steps : (ℕ → Option ℕ) → ℕ → List Step
path_steps losses n = steps_below losses n (largest_penalty + 1)

-- a row of numbers as losses: the largest u64 stands for an absent one
abbrev pub present : ℕ → Option ℕ
present x = cond (x == 18446744073709551615) None (Some x)

abbrev pub losses_in : List ℕ → ℕ → Option ℕ
losses_in row k = present (slice_index row k)
