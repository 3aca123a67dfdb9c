-- How many bytes a reading takes, and how many a frame holds.
use Rattle.std.specs.Prelude.{ℕ, ◌%◌, Bool, ◌&&◌, ◌==◌, nat_le, nat_lt}
use Rattle.frames.specs.declared.size.ReadingSize.{ReadingSize}
use Rattle.frames.specs.declared.size.ReadingSize.TheVariants.{Two, Three}

abbrev pub bytes_each : ReadingSize → ℕ
bytes_each Two = 2
bytes_each Three = 3

-- n bytes are at least one reading, and whole ones, in at most 64 bytes
abbrev pub whole_readings : ReadingSize → ℕ → Bool
whole_readings size n = nat_lt 0 n && (nat_le n 64 && n % bytes_each size == 0)
