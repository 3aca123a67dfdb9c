-- What refuses a line, by the loss that it is cut over.
use Rattle.std.specs.Prelude.{ℕ, ◌^◌, Option, ◌==◌, nat_lt}
use Rattle.fault.specs.declared.Fault.{Fault}
use Rattle.fault.specs.declared.Fault.TheVariants.{BadStretch, TooManyReadings, TooHeavy, NoReading}
use Rattle.fault.specs.Refusal.{or_else, when}
use Rattle.loss.specs.Table.{Table}

-- Why a line of n readings cannot be cut over the loss: it is too heavy, there is no reading, there are too many, or the loss
-- does not stand for so many.
abbrev pub line_refusal : Table → ℕ → Option Fault
line_refusal t n =
    or_else (when (nat_lt (2 ^ 40) t.ceiling) TooHeavy) (or_else (when (n == 0) NoReading) (or_else (when (nat_lt 512 n) TooManyReadings) (when (nat_lt t.length n) BadStretch)))
