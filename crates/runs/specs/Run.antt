-- A run: a fresh line, and any calls of it.
use Rattle.std.specs.Prelude.{ℕ, Option, nat_lt}
use Rattle.fault.specs.declared.Fault.{Fault}
use Rattle.fault.specs.declared.Fault.TheVariants.{ShortBuffer}
use Rattle.fault.specs.Refusal.{or_else, when}
use Rattle.loss.specs.Table.{Table}
use Rattle.line.specs.Calls.{open_refusal}

-- why a run is refused before its first call: no line can be opened over the loss, or there is not a place for each call's reply
abbrev pub run_refusal : Table → ℕ → ℕ → Option Fault
run_refusal t calls places = or_else (open_refusal t) (when (nat_lt places calls) ShortBuffer)
