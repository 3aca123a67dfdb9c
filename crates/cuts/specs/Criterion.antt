-- What a criterion asks for, and why a cut by it is refused.
use Rattle.std.specs.Prelude.{ℕ, Option}
use Rattle.fault.specs.declared.Fault.{Fault}
use Rattle.loss.specs.Table.{Table}
use Rattle.division.specs.Winner.{Criterion as Sought, by_penalty, by_count}
use Rattle.cuts.specs.declared.criterion.Criterion.{Criterion}
use Rattle.cuts.specs.declared.criterion.Criterion.TheVariants.{Penalty, Count}
use Rattle.cuts.specs.Outcome.{penalty_refusal, count_refusal}

-- what a criterion asks for
abbrev pub sought : Criterion → Sought
sought (Penalty p) = by_penalty p
sought (Count k) = by_count k

-- why a cut of n readings is refused before any division is looked for, from the lent lengths of numbers, trace and boundaries
abbrev pub refusal_of : Sought → Table → ℕ → ℕ → ℕ → ℕ → Option Fault
refusal_of (by_penalty p) t n numbers trace places = penalty_refusal t n p numbers trace places
refusal_of (by_count k) t n numbers trace places = count_refusal t n k numbers trace places
