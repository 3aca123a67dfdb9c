-- What a text holds after bytes were put behind it.
use Rattle.std.specs.Prelude.{◌≡◌, ℕ, List, ◌++◌, Ok, Err, Result}
use Rattle.std.specs.declared.alloc.AllocError.{AllocError}
use Rattle.hexadecimal.specs.Digits.{text_of}

-- behind what it held, the bytes in hexadecimal; where memory was wanting, some text
abbrev pub Put : List ℕ → List ℕ → List ℕ → Result Unit AllocError → Type 0
Put bytes before after (Ok u) = after ≡ before ++ text_of bytes
Put bytes before after (Err e) = (more : List ℕ) × (after ≡ before ++ more)
