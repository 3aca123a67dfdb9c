-- The theorems about the path that the crate's contracts name.
use Rattle.std.specs.Prelude.{◌≡◌, ℕ, ◌<◌, ◌≤◌, ◌↔◌, List, Some, None, Option}
use Rattle.std.specs.List.{AllByRecursion}
use Rattle.envelope.specs.declared.Step.{Step}
use Rattle.envelope.specs.Path.{path_at, path_steps, Cheapest, Path}

-- path_at gives the one that is cheapest, and None where every count is absent
pub record NamesCheapest (losses : ℕ → Option ℕ) (n p : ℕ) : Type 0 where
  pub some : (s : Step) → (path_at losses p n ≡ Some s) ↔ Cheapest losses n p s
  pub none : (path_at losses p n ≡ None) ↔ ((k : ℕ) → k < n → losses k ≡ None)

abbrev pub PathNamesCheapest : Type 0
PathNamesCheapest = (losses : ℕ → Option ℕ) (n p : ℕ) → NamesCheapest losses n p

-- one list of steps alone is the path
abbrev pub OnePath : Type 0
OnePath = (losses : ℕ → Option ℕ) (n : ℕ) (ss : List Step) → Path losses n ss ↔ (ss ≡ path_steps losses n)

-- the path's count never rises with the penalty
abbrev pub CountsFall : Type 0
CountsFall = (losses : ℕ → Option ℕ) (n p q : ℕ) (s t : Step) → p ≤ q → path_at losses p n ≡ Some s → path_at losses q n ≡ Some t → t.count ≤ s.count

-- a step stands at the first penalty at which its count wins: before it more boundaries do
pub record Begins (losses : ℕ → Option ℕ) (n : ℕ) (s : Step) : Type 0 where
  pub wins : path_at losses s.penalty n ≡ Some s
  pub first : (p : ℕ) (t : Step) → p < s.penalty → path_at losses p n ≡ Some t → s.count < t.count

abbrev pub StepsBegin : Type 0
StepsBegin = (losses : ℕ → Option ℕ) (n : ℕ) → AllByRecursion (Begins losses n) (path_steps losses n)

-- only the losses below n count
abbrev pub OnlyCountsBelow : Type 0
OnlyCountsBelow = (losses losses' : ℕ → Option ℕ) (n : ℕ) → ((k : ℕ) → k < n → losses k ≡ losses' k) → path_steps losses n ≡ path_steps losses' n
