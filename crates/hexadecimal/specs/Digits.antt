-- Which digits write which bytes.
use Rattle.std.specs.Prelude.{ℕ, ◌+◌, ◌-◌, ◌*◌, ◌/◌, ◌%◌, cond, List, [], ◌∷◌, Some, None, Option, nat_lt}

-- the value of a digit: '0' is 48, and 'A' is 65
abbrev pub digit_value : ℕ → Option ℕ
digit_value c = cond (nat_lt c 48) None (cond (nat_lt c 58) (Some (c - 48)) (cond (nat_lt c 65) None (cond (nat_lt c 71) (Some (c - 55)) None)))

-- the digit of a value
abbrev pub digit_for : ℕ → ℕ
digit_for value = cond (nat_lt value 10) (value + 48) (value + 55)

-- the byte of two digits in front of the others
abbrev pub in_front : Option ℕ → Option ℕ → Option (List ℕ) → Option (List ℕ)
in_front (Some high) (Some low) (Some rest) = Some ((high * 16 + low) ∷ rest)
in_front (Some high) (Some low) None = None
in_front (Some high) None rest = None
in_front None low rest = None

-- the bytes that digits write
abbrev pub bytes_in : List ℕ → Option (List ℕ)
bytes_in [] = Some []
bytes_in (a ∷ []) = None
bytes_in (a ∷ b ∷ rest) = in_front (digit_value a) (digit_value b) (bytes_in rest)

-- the digits of bytes
abbrev pub text_of : List ℕ → List ℕ
text_of [] = []
text_of (b ∷ bs) = digit_for (b / 16) ∷ digit_for (b % 16) ∷ text_of bs
