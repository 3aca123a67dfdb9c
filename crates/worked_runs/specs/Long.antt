-- A loss of 513 readings, of which no stretch loses anything.
use Rattle.std.specs.Prelude.{ℕ}
use Rattle.std.proofs.Common.{arith}
use Rattle.loss.specs.Table.{Table, Sound}

abbrev pub long : Table
long = record { length = 513; ceiling = 0; loss = λ (a b : ℕ). 0 }

pub long_sound : Sound long
long_sound = record { short = omega arith; light = omega arith; under = λ a b heavy rises fits. omega arith }
