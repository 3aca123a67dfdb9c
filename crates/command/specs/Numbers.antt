-- The number that a word writes.
use Rattle.std.specs.Prelude.{ℕ, ◌+◌, ◌-◌, ◌*◌, ◌^◌, min, Bool, cond, ◌&&◌, List, [], ◌∷◌, ℤ, pos, neg_ℤ, Some, None, Option, ◌==◌, nat_le}
use Rattle.std.specs.Int.{saturate_to_bits}
use Rattle.std.specs.Option.{option_map}

abbrev pub is_digit : ℕ → Bool
is_digit b = nat_le 48 b && nat_le b 57

-- the number that further digits make of n
abbrev pub decimal_after : ℕ → List ℕ → Option ℕ
decimal_after n [] = Some n
decimal_after n (b ∷ more) = cond (is_digit b) (decimal_after (n * 10 + (b - 48)) more) None

-- the number that one or more digits write
abbrev pub decimal : List ℕ → Option ℕ
decimal [] = None
decimal (b ∷ more) = decimal_after 0 (b ∷ more)

-- that number, or the largest of `bits` bits where it is larger
abbrev pub natural : ℕ → List ℕ → Option ℕ
natural bits word = option_map (λ n. min n (2 ^ bits - 1)) (decimal word)

-- digits, or '-' and digits
abbrev pub integer : List ℕ → Option ℤ
integer [] = None
integer (b ∷ more) = cond (b == 45) (option_map (λ n. neg_ℤ (pos n)) (decimal more)) (option_map pos (decimal (b ∷ more)))

-- that number, or the end of the 32 bits that is nearest to it
abbrev pub reading : List ℕ → Option ℤ
reading word = option_map (saturate_to_bits 31) (integer word)
