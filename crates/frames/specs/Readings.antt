-- Readings in bytes: two's complement, the high byte first.
use Rattle.std.specs.Prelude.{ℕ, ◌+◌, ◌*◌, List, [], ◌∷◌, ◌++◌, ℤ}
use Rattle.std.specs.Int.{w16}
use Rattle.std.proofs.Common.{to_z, of_z}
use Rattle.frames.specs.declared.reading.PairReading.{PairReading}
use Rattle.frames.specs.Numbers.{two_bytes}

abbrev pub reading_of : ℕ → ℕ → ℤ
reading_of high low = to_z w16 (high * 256 + low)

abbrev pub reading_bytes : ℤ → List ℕ
reading_bytes x = two_bytes (of_z w16 x)

-- the readings of two bytes that stand in bytes
abbrev pub readings_in : List ℕ → List ℤ
readings_in [] = []
readings_in (high ∷ []) = []
readings_in (high ∷ low ∷ rest) = reading_of high low ∷ readings_in rest

abbrev pub pair_of : ℕ → ℕ → ℕ → PairReading
pair_of high low code = record { port = reading_of high low; code = code }

abbrev pub pair_bytes : PairReading → List ℕ
pair_bytes x = reading_bytes x.port ++ x.code ∷ []

-- the readings of three bytes that stand in bytes
abbrev pub pairs_in : List ℕ → List PairReading
pairs_in [] = []
pairs_in (high ∷ []) = []
pairs_in (high ∷ low ∷ []) = []
pairs_in (high ∷ low ∷ code ∷ rest) = pair_of high low code ∷ pairs_in rest
