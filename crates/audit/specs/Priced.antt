-- What is told of a division of the readings that a loss stands for, and when nothing is told.
use Rattle.std.specs.Prelude.{◌≡◌, ℕ, ◌+◌, ◌*◌, ◌^◌, ◌≤◌, cond, List, [], ◌∷◌, ◌++◌, map, Some, None, vec_items, Option, ◌==◌, nat_lt}
use Rattle.fault.specs.declared.Fault.{Fault}
use Rattle.fault.specs.declared.Fault.TheVariants.{TooHeavy, NoReading, TooManyReadings, BadPenalty, BadStretch}
use Rattle.fault.specs.Refusal.{or_else}
use Rattle.loss.specs.Table.{Table}
use Rattle.division.specs.declared.mark.Mark.{Mark}
use Rattle.division.specs.Division.{division, long_enough, loss}
use Rattle.division.specs.Marks.{boundaries_in, obeys, allowed}
use Rattle.division.specs.Winner.{by_penalty, total}
use Rattle.audit.specs.declared.price.Sum.{Sum}
use Rattle.audit.specs.declared.report.PricedStretch.{PricedStretch}
use Rattle.audit.specs.declared.report.CountedMark.{CountedMark}
use Rattle.audit.specs.declared.report.Report.{Report}

-- each stretch of the division from a on, with its loss
abbrev pub priced : (ℕ → ℕ → ℕ) → ℕ → ℕ → List ℕ → List PricedStretch
priced f n a [] = record { start = a; end = n; loss = f a n } ∷ []
priced f n a (b ∷ ds) = record { start = a; end = b; loss = f a b } ∷ priced f n b ds

-- a mark, with the boundaries that stand in its span
abbrev pub counted : List ℕ → Mark → CountedMark
counted ds k = record { mark = k; boundaries = boundaries_in k ds; obeyed = obeys ds k }

-- why no line can be opened over the loss
abbrev pub opening_refusal : Table → Option Fault
opening_refusal t =
    cond (nat_lt (2 ^ 40) t.ceiling) (Some TooHeavy) (cond (t.length == 0) (Some NoReading) (cond (nat_lt 512 t.length) (Some TooManyReadings) None))

-- the first cause that applies: the line cannot be opened, the penalty is too large, the gaps are no division of the line
abbrev pub price_refusal : Table → ℕ → List ℕ → Option Fault
price_refusal t p ds = or_else (opening_refusal t) (cond (nat_lt (2 ^ 49) p) (Some BadPenalty) (cond (division t.length ds) None (Some BadStretch)))

-- the stretches with their losses, and the losses added up
pub record Summed (t : Table) (ds : List ℕ) (s : Sum) : Type 0 where
  pub stretches : vec_items s.stretches ≡ priced t.loss t.length 0 ds
  pub loss : s.loss ≡ loss t.loss t.length ds
  pub bound : s.loss ≤ 2 ^ 40 * t.length

-- the sum has one stretch more, which ends at b
pub record Longer (t : Table) (s s' : Sum) (b : ℕ) : Type 0 where
  pub stretches : vec_items s'.stretches ≡ vec_items s.stretches ++ record { start = s.end; end = b; loss = t.loss s.end b } ∷ []
  pub end : s'.end ≡ b
  pub loss : s'.loss ≡ s.loss + t.loss s.end b
  pub small : s'.loss ≤ 2 ^ 40 * b

-- the report tells the truth
pub record Told (t : Table) (marks : List Mark) (m p : ℕ) (ds : List ℕ) (r : Report) : Type 0 where
  pub stretches : vec_items r.stretches ≡ priced t.loss t.length 0 ds
  pub counted : vec_items r.marks ≡ map (counted ds) marks
  pub long : r.long_enough ≡ long_enough m t.length ds
  pub loss : r.loss ≡ loss t.loss t.length ds
  pub total : r.total ≡ total (by_penalty p) t.loss t.length ds
  pub allowed : r.allowed ≡ allowed marks m t.length ds
