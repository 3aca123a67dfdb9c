-- The calls of a line: what refuses each, and what each gives.
use Rattle.std.specs.Prelude.{ℕ, ◌-◌, ◌^◌, cond, ◌&&◌, List, Some, None, Ok, Err, Option, Result, ◌==◌, nat_le, nat_lt}
use Rattle.std.specs.List.{slice_get}
use Rattle.fault.specs.declared.Fault.{Fault}
use Rattle.fault.specs.declared.Fault.TheVariants.{BadShortest, TooManyReadings, TooHeavy, NoReading}
use Rattle.fault.specs.Refusal.{or_else, when}
use Rattle.loss.specs.Table.{Table}
use Rattle.division.specs.declared.mark.Mark.{Mark}
use Rattle.division.specs.Winner.{Criterion as Sought, winner, total}
use Rattle.cuts.specs.Outcome.{outcome}
use Rattle.cuts.specs.Criterion.{refusal_of}
use Rattle.line.specs.declared.Marking.{Marking}
use Rattle.line.specs.declared.Cut.{Cut}

-- why no line can be opened over the loss, in this order: it is too heavy, there is no reading, there are more than 512
abbrev pub open_refusal : Table → Option Fault
open_refusal t = or_else (when (nat_lt (2 ^ 40) t.ceiling) TooHeavy) (or_else (when (t.length == 0) NoReading) (when (nat_lt 512 t.length) TooManyReadings))

-- a fresh line
abbrev pub fresh : Table → Marking
fresh t = record { n = t.length; shortest = 1 }

-- a shortest stretch is one reading at least and the whole line at most
abbrev pub shortest_refusal : ℕ → ℕ → Option Fault
shortest_refusal n m = cond (nat_le 1 m && nat_le m n) None (Some BadShortest)

-- the line after it was asked for the shortest stretch m
abbrev pub with_shortest : ℕ → Marking → Marking
with_shortest m l = record { n = l.n; shortest = cond (nat_le 1 m && nat_le m l.n) m l.shortest }

-- why a cut is refused before any division is looked for, from the lent lengths of numbers, trace and boundaries
abbrev pub cut_refusal : Sought → Table → Marking → ℕ → ℕ → ℕ → Option Fault
cut_refusal c t l numbers trace places = refusal_of c t l.n numbers trace places

-- the winning division of the line
abbrev pub cut_winner : Sought → Table → List Mark → Marking → Option (List ℕ)
cut_winner c t marks l = winner c t.loss marks l.shortest l.n

-- what a division of the line costs
abbrev pub cut_total : Sought → Table → Marking → List ℕ → ℕ
cut_total c t l = total c t.loss l.n

-- the winner's total, or why there is none
abbrev pub cut_outcome : Sought → Table → List Mark → Marking → ℕ → ℕ → ℕ → Result ℕ Fault
cut_outcome c t marks l numbers trace places = outcome (cut_refusal c t l numbers trace places) (cut_winner c t marks l) (cut_total c t l)

-- the cut line with the total, or the line as it stood and the fault
abbrev pub cut_line : Marking → Result ℕ Fault → Result Cut (Marking × Fault)
cut_line l (Ok t) = Ok (record { n = l.n; shortest = l.shortest; total = t })
cut_line l (Err f) = Err (l, f)

-- entry number i, counted from 1
abbrev pub numbered : List ℕ → ℕ → Option ℕ
numbered ds i = cond (i == 0) None (slice_get ds (i - 1))

-- the marking line that a cut line becomes again
abbrev pub reopened : Cut → Marking
reopened c = record { n = c.n; shortest = c.shortest }
