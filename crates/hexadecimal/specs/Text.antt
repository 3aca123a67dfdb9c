-- What a text holds after bytes were appended.
use Rattle.std.specs.Prelude.{◌≡◌, ℕ, List, ◌++◌, Result, is_ok, if◌then◌else◌}
use Rattle.std.specs.declared.alloc.AllocError.{AllocError}

-- behind what it held, all of `more`; where memory was wanting, it is as it was
abbrev pub Appends : List ℕ → List ℕ → List ℕ → Result Unit AllocError → Type 0
Appends more before after result = after ≡ (if is_ok result then before ++ more else before)
