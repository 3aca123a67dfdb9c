-- Numbers in bytes, the high one first.
use Rattle.std.specs.Prelude.{ℕ, ◌+◌, ◌*◌, ◌/◌, ◌%◌, List, [], ◌∷◌, slice_index}

-- the number in two bytes from place i on
abbrev pub two_at : List ℕ → ℕ → ℕ
two_at bytes i = slice_index bytes i * 256 + slice_index bytes (i + 1)

-- the number in eight bytes from place i on
abbrev pub eight_at : List ℕ → ℕ → ℕ
eight_at bytes i =
    slice_index bytes i * 72057594037927936 + slice_index bytes (i + 1) * 281474976710656 + slice_index bytes (i + 2) * 1099511627776 + slice_index bytes (i + 3) * 4294967296
    + slice_index bytes (i + 4) * 16777216 + slice_index bytes (i + 5) * 65536 + slice_index bytes (i + 6) * 256 + slice_index bytes (i + 7)

-- the low two bytes of a number
abbrev pub two_bytes : ℕ → List ℕ
two_bytes x = x / 256 % 256 ∷ x % 256 ∷ []

-- the low eight bytes of a number
abbrev pub eight_bytes : ℕ → List ℕ
eight_bytes x =
    x / 72057594037927936 % 256 ∷ x / 281474976710656 % 256 ∷ x / 1099511627776 % 256 ∷ x / 4294967296 % 256 ∷ x / 16777216 % 256 ∷ x / 65536 % 256 ∷ x / 256 % 256 ∷ x % 256 ∷ []
