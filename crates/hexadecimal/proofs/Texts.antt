-- The text of bytes: its length, and the text of two lists of bytes.
use Rattle.std.proofs.Common.{◌≡◌, ℕ, ◌*◌, ◌/◌, ◌%◌, List, [], ◌∷◌, ◌++◌, length, refl, ap, arith}
use Rattle.hexadecimal.specs.Digits.{digit_for, text_of}

pub length_text : (bs : List ℕ) → length (text_of bs) ≡ 2 * length bs
length_text [] = refl
length_text (b ∷ bs) = omega (arith, length_text bs)

pub text_append : (xs ys : List ℕ) → text_of (xs ++ ys) ≡ text_of xs ++ text_of ys
text_append [] ys = refl
text_append (x ∷ xs) ys = ap (λ (r : List ℕ). digit_for (x / 16) ∷ digit_for (x % 16) ∷ r) (text_append xs ys)
