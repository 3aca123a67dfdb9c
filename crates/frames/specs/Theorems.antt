-- What the definitions mean: the theorems that the crate's contracts name.
use Rattle.std.specs.Prelude.{◌≡◌, ℕ, ◌*◌, ◌%◌, ◌^◌, ◌<◌, ◌≤◌, true, ◌↔◌, List, length, take, ℤ, Ok, Err, ◌≢◌}
use Rattle.std.specs.Int.Signed.{mag}
use Rattle.std.specs.List.{flat_map, AllByRecursion}
use Rattle.fault.specs.declared.Fault.TheVariants.{UnknownFrame}
use Rattle.hexadecimal.specs.Digits.{text_of}
use Rattle.hexadecimal.specs.Theorems.{Bytes}
use Rattle.frames.specs.declared.size.ReadingSize.{ReadingSize}
use Rattle.frames.specs.declared.reading.PairReading.{PairReading}
use Rattle.frames.specs.Numbers.{two_at, eight_at, two_bytes, eight_bytes}
use Rattle.frames.specs.declared.size.ReadingSize.TheVariants.{Two, Three}
use Rattle.frames.specs.Size.{bytes_each, whole_readings}
use Rattle.frames.specs.Asked.{Asked, readings, opening, mark, unmark, shortest, cut_by_penalty, cut_by_count, path, reopen, frame_bytes, frame_in, line_frame}
use Rattle.frames.specs.Readings.{reading_bytes, readings_in, pair_bytes, pairs_in}

-- a number that fits is read back from its bytes
pub record NumbersReadBack : Type 0 where
  pub two : (x : ℕ) → x < 2 ^ 16 → two_at (two_bytes x) 0 ≡ x
  pub eight : (x : ℕ) → x < 2 ^ 64 → eight_at (eight_bytes x) 0 ≡ x

-- n bytes are 1 to `most` readings of the size
pub record Holds (size : ReadingSize) (most n : ℕ) : Type 0 where
  pub readings_held : ℕ
  pub some : 1 ≤ readings_held
  pub few : readings_held ≤ most
  pub long : n ≡ readings_held * bytes_each size

-- a frame holds 1 to 32 readings of two bytes, or 1 to 21 of three
pub record SizesInWords : Type 0 where
  pub two : (n : ℕ) → (whole_readings Two n ≡ true) ↔ Holds Two 32 n
  pub three : (n : ℕ) → (whole_readings Three n ≡ true) ↔ Holds Three 21 n

-- its numbers fit their bytes, and there are whole readings, neither none nor too many
abbrev pub InRange : ReadingSize → Asked → Type 0
InRange size (readings bytes) = Bytes bytes × (whole_readings size (length bytes) ≡ true)
InRange size opening = Unit {0}
InRange size (mark m) = (m.first < 2 ^ 16) × (m.last < 2 ^ 16) × (m.boundaries < 2 ^ 8)
InRange size (unmark first) = first < 2 ^ 16
InRange size (shortest m) = m < 2 ^ 16
InRange size (cut_by_penalty penalty) = penalty < 2 ^ 64
InRange size (cut_by_count count) = count < 2 ^ 16
InRange size path = Unit {0}
InRange size reopen = Unit {0}

-- every frame that fits is read back from its bytes
abbrev pub FramesReadBack : Type 0
FramesReadBack = (size : ReadingSize) (a : Asked) → InRange size a → frame_in size (frame_bytes a) ≡ Ok a

-- bytes that are read as a frame are the bytes of that frame, and it fits
abbrev pub FramesWrittenBack : Type 0
FramesWrittenBack = (size : ReadingSize) (bytes : List ℕ) (a : Asked) → Bytes bytes → frame_in size bytes ≡ Ok a → (frame_bytes a ≡ bytes) × InRange size a

-- bytes that are those of no frame are refused as unknown
abbrev pub RefusedWhenNone : Type 0
RefusedWhenNone =
    (size : ReadingSize) (bytes : List ℕ) → Bytes bytes → ((a : Asked) → InRange size a → frame_bytes a ≢ bytes) → frame_in size bytes ≡ Err UnknownFrame

-- a frame that fits is read back from its line
abbrev pub LinesReadBack : Type 0
LinesReadBack = (size : ReadingSize) (a : Asked) → InRange size a → line_frame size (text_of (frame_bytes a)) ≡ Ok a

-- what stands past the first 131 bytes of a line does not matter
abbrev pub FrontSuffices : Type 0
FrontSuffices = (size : ReadingSize) (line : List ℕ) → line_frame size (take 131 line) ≡ line_frame size line

-- readings that fit two bytes are read back, and whole readings have just their bytes
abbrev pub ReadingsReadBack : Type 0
ReadingsReadBack = (xs : List ℤ) → AllByRecursion (λ x. mag x < 2 ^ 15) xs → readings_in (flat_map reading_bytes xs) ≡ xs

abbrev pub ReadingsWrittenBack : Type 0
ReadingsWrittenBack = (bytes : List ℕ) → Bytes bytes → length bytes % 2 ≡ 0 → flat_map reading_bytes (readings_in bytes) ≡ bytes

-- the same of port and code
abbrev pub PairInRange : PairReading → Type 0
PairInRange x = (mag x.port < 2 ^ 15) × (x.code < 2 ^ 8)

abbrev pub PairsReadBack : Type 0
PairsReadBack = (xs : List PairReading) → AllByRecursion PairInRange xs → pairs_in (flat_map pair_bytes xs) ≡ xs

abbrev pub PairsWrittenBack : Type 0
PairsWrittenBack = (bytes : List ℕ) → Bytes bytes → length bytes % 3 ≡ 0 → flat_map pair_bytes (pairs_in bytes) ≡ bytes
