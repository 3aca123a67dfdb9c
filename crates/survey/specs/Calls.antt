-- When the calls of a survey are refused, beside those of its parts.
use Rattle.std.specs.Prelude.{ℕ, cond, ◌&&◌, Some, None, Ok, Err, Option, Result, nat_le}
use Rattle.fault.specs.declared.Fault.{Fault}
use Rattle.fault.specs.declared.Fault.TheVariants.{BadShortest}

-- the number n in the place of an answer that is given
abbrev pub counted : {X : Type 0} → Result X Fault → ℕ → Result ℕ Fault
counted (Ok x) n = Ok n
counted (Err f) n = Err f

-- a shortest stretch is one reading at least and the whole line at most
abbrev pub shortest_refusal : ℕ → ℕ → Option Fault
shortest_refusal n m = cond (nat_le 1 m && nat_le m n) None (Some BadShortest)
