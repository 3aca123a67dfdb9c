-- The bytes of a line of digits.
use Rattle.std.specs.Prelude.{ℕ, cond, List, ◌++◌, length, drop, Some, None, Ok, Err, Option, Result, ◌==◌, nat_lt}
use Rattle.fault.specs.declared.Fault.{Fault}
use Rattle.fault.specs.declared.Fault.TheVariants.{MalformedLine}
use Rattle.hexadecimal.specs.Digits.{bytes_in}

-- the value, where the digits write one
abbrev pub or_malformed : {X : Type 0} → Option X → Result X Fault
or_malformed None = Err MalformedLine
or_malformed (Some x) = Ok x

-- the bytes of a line of 1 to 130 digits
abbrev pub line_bytes : List ℕ → Result (List ℕ) Fault
line_bytes line = cond (length line == 0) (Err MalformedLine) (cond (nat_lt 130 (length line)) (Err MalformedLine) (or_malformed (bytes_in line)))

-- how many bytes a line has, or why it is refused
abbrev pub how_many : Result (List ℕ) Fault → Result ℕ Fault
how_many (Ok bytes) = Ok (length bytes)
how_many (Err f) = Err f

-- a buffer with the bytes of a line at its front; refused, as it was
abbrev pub laid_over : Result (List ℕ) Fault → List ℕ → List ℕ
laid_over (Ok bytes) before = bytes ++ drop (length bytes) before
laid_over (Err f) before = before
