-- The readings that a program holds, those that the bytes of a frame bring, and what becomes of them.
use Rattle.std.specs.Prelude.{ℕ, ◌+◌, ◌^◌, Bool, cond, List, [], ◌++◌, map, length, ℤ, pos, Ok, Err, Result, nat_le}
use Rattle.fault.specs.declared.Fault.{Fault}
use Rattle.fault.specs.declared.Fault.TheVariants.{ReadingOutOfRange, TooManyReadings}
use Rattle.loss.specs.Table.{Table}
use Rattle.layers.specs.Layers.{paired, weighted}
use Rattle.leaves.specs.Readings.{table_of, square, differs}
use Rattle.leaves.specs.Taking.{all_between}
use Rattle.frames.specs.declared.size.ReadingSize.{ReadingSize}
use Rattle.frames.specs.declared.size.ReadingSize.TheVariants.{Two, Three}
use Rattle.frames.specs.declared.reading.PairReading.{PairReading}
use Rattle.frames.specs.Readings.{readings_in, pairs_in}

-- the readings of port and those of starboard, in their order; a program of one side has none of starboard
pub record Sides : Type 0 where
  pub port : List ℤ
  pub starboard : List ℤ

abbrev pub no_readings : Sides
no_readings = record { port = []; starboard = [] }

abbrev pub port_of : PairReading → ℤ
port_of x = x.port

abbrev pub code_of : PairReading → ℤ
code_of x = pos x.code

-- the readings of bytes, where each takes two or three; bytes past the last whole reading bring none
abbrev pub brought : ReadingSize → List ℕ → Sides
brought Two bytes = record { port = readings_in bytes; starboard = [] }
brought Three bytes = record { port = map port_of (pairs_in bytes); starboard = map code_of (pairs_in bytes) }

-- each code is one of the 16 classes; of port every reading of 16 bits is in range
abbrev pub codes_fit : Sides → Bool
codes_fit new = all_between (pos 0) 15 new.starboard

-- at most 512 are then held
abbrev pub room_for : Sides → Sides → Bool
room_for old new = nat_le (length old.port + length new.port) 512

-- how many are then held; a code out of range is refused first, then more than 512
abbrev pub taken : Sides → Sides → Result ℕ Fault
taken old new = cond (codes_fit new) (cond (room_for old new) (Ok (length old.port + length new.port)) (Err TooManyReadings)) (Err ReadingOutOfRange)

abbrev pub together : Sides → Sides → Sides
together old new = record { port = old.port ++ new.port; starboard = old.starboard ++ new.starboard }

-- the readings after it: all are taken or none
abbrev pub after : Sides → Sides → Sides
after old new = cond (codes_fit new) (cond (room_for old new) (together old new) old) old

-- what the readings stand for: port by squares alone
abbrev pub port_table : Sides → Table
port_table s = table_of square (2 ^ 32) s.port

-- port by squares, and starboard by votes that weigh 100
abbrev pub pair_table : Sides → Table
pair_table s = paired (port_table s) (weighted 100 (table_of differs 1 s.starboard))
