-- What a frame asks, its bytes, and what a line asks.
use Rattle.std.specs.Prelude.{ℕ, ◌-◌, cond, List, [], ◌∷◌, ◌++◌, length, drop, Ok, Err, Result, ◌==◌, slice_index}
use Rattle.fault.specs.declared.Fault.{Fault}
use Rattle.fault.specs.declared.Fault.TheVariants.{UnknownFrame}
use Rattle.division.specs.declared.mark.Mark.{Mark as Marked}
use Rattle.hexadecimal.specs.Line.{line_bytes}
use Rattle.frames.specs.declared.size.ReadingSize.{ReadingSize}
use Rattle.frames.specs.declared.frame.Frame.{Frame}
use Rattle.frames.specs.declared.frame.Frame.TheVariants.{Readings, Open, Mark, Unmark, Shortest, CutByPenalty, CutByCount, Path, Reopen}
use Rattle.frames.specs.Numbers.{two_at, eight_at, two_bytes, eight_bytes}
use Rattle.frames.specs.Size.{whole_readings}

-- what a frame asks, with readings as their bytes
pub data Asked : Type 0 where
  readings : List ℕ → Asked
  opening : Asked
  mark : Marked → Asked
  unmark : ℕ → Asked
  shortest : ℕ → Asked
  cut_by_penalty : ℕ → Asked
  cut_by_count : ℕ → Asked
  path : Asked
  reopen : Asked

abbrev pub asked : Frame → Asked
asked (Readings bytes) = readings bytes.now
asked Open = opening
asked (Mark m) = mark m
asked (Unmark first) = unmark first
asked (Shortest m) = shortest m
asked (CutByPenalty penalty) = cut_by_penalty penalty
asked (CutByCount count) = cut_by_count count
asked Path = path
asked Reopen = reopen

abbrev pub asked_by : Result Frame Fault → Result Asked Fault
asked_by (Ok f) = Ok (asked f)
asked_by (Err f) = Err f

-- the bytes of a frame
abbrev pub frame_bytes : Asked → List ℕ
frame_bytes (readings bytes) = 0x10 ∷ bytes
frame_bytes opening = 0x11 ∷ []
frame_bytes (mark m) = 0x20 ∷ (two_bytes m.first ++ (two_bytes m.last ++ m.boundaries ∷ []))
frame_bytes (unmark first) = 0x21 ∷ two_bytes first
frame_bytes (shortest m) = 0x22 ∷ two_bytes m
frame_bytes (cut_by_penalty penalty) = 0x30 ∷ eight_bytes penalty
frame_bytes (cut_by_count count) = 0x31 ∷ two_bytes count
frame_bytes path = 0x32 ∷ []
frame_bytes reopen = 0x40 ∷ []

-- the frame, where it has n bytes
abbrev pub of_length : List ℕ → ℕ → Asked → Result Asked Fault
of_length bytes n a = cond (length bytes == n) (Ok a) (Err UnknownFrame)

-- what the bytes of a frame ask
abbrev pub frame_in : ReadingSize → List ℕ → Result Asked Fault
frame_in size bytes =
    cond (slice_index bytes 0 == 0x10) (cond (whole_readings size (length bytes - 1)) (Ok (readings (drop 1 bytes))) (Err UnknownFrame))
    (cond (slice_index bytes 0 == 0x11) (of_length bytes 1 opening)
    (cond (slice_index bytes 0 == 0x20) (of_length bytes 6 (mark (record { first = two_at bytes 1; last = two_at bytes 3; boundaries = slice_index bytes 5 })))
    (cond (slice_index bytes 0 == 0x21) (of_length bytes 3 (unmark (two_at bytes 1)))
    (cond (slice_index bytes 0 == 0x22) (of_length bytes 3 (shortest (two_at bytes 1)))
    (cond (slice_index bytes 0 == 0x30) (of_length bytes 9 (cut_by_penalty (eight_at bytes 1)))
    (cond (slice_index bytes 0 == 0x31) (of_length bytes 3 (cut_by_count (two_at bytes 1)))
    (cond (slice_index bytes 0 == 0x32) (of_length bytes 1 path)
    (cond (slice_index bytes 0 == 0x40) (of_length bytes 1 reopen) (Err UnknownFrame)))))))))

-- what a line asks
abbrev pub frame_of : ReadingSize → Result (List ℕ) Fault → Result Asked Fault
frame_of size (Ok bytes) = frame_in size bytes
frame_of size (Err f) = Err f

abbrev pub line_frame : ReadingSize → List ℕ → Result Asked Fault
line_frame size line = frame_of size (line_bytes line)
