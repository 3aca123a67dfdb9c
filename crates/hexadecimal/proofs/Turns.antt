-- One turn of the loop that reads digits, and of the one that writes them; a line that is read.
use Rattle.std.proofs.Common.{◌≡◌, ℕ, ◌+◌, ◌-◌, ◌*◌, ◌/◌, ◌%◌, ◌<◌, ◌≤◌, List, [], ◌∷◌, ◌++◌, length, get_or, take, drop, Some, None, Option, refl, ap, ◌∙◌, arith}
use Rattle.std.proofs.lemmas.List.{append-nil, append_assoc, take_more, take_rest}
use Rattle.hexadecimal.specs.Digits.{digit_value, digit_for, in_front, bytes_in, text_of}
use Rattle.hexadecimal.proofs.Texts.{text_append}

-- bytes that are read, in front of those that are left to read
abbrev pub behind : List ℕ → Option (List ℕ) → Option (List ℕ)
behind front None = None
behind front (Some rest) = Some (front ++ rest)

pub behind_none : (left : Option (List ℕ)) → left ≡ behind [] left
behind_none None = refl
behind_none (Some rest) = refl

pub behind_all : (front : List ℕ) → behind front (Some []) ≡ Some front
behind_all front = simp append-nil

behind_push : (front later : List ℕ) (high low : ℕ) (left : Option (List ℕ)) → later ≡ front ++ (high * 16 + low) ∷ [] →
    behind front (in_front (Some high) (Some low) left) ≡ behind later left
behind_push front later high low None e = refl
behind_push front later high low (Some rest) e = rw (e, append_assoc)

pub read_more : (left bytes later : List ℕ) (high low : ℕ) → 2 ≤ length left → digit_value (get_or left 0 0) ≡ Some high → digit_value (get_or left 1 0) ≡ Some low →
    later ≡ bytes ++ (high * 16 + low) ∷ [] → behind bytes (bytes_in left) ≡ behind later (bytes_in (take (length left - 2) (drop 2 left)))
read_more [] bytes later high low two p q e = absurd (omega arith)
read_more (a ∷ []) bytes later high low two p q e = absurd (omega arith)
read_more (a ∷ b ∷ rest) bytes later high low two p q e = simp (p, q, take_rest (a ∷ b ∷ rest) 2) (behind_push bytes later high low (bytes_in rest) e)

pub put_more : (bytes old before later : List ℕ) (i high low : ℕ) → i < length bytes → before ≡ old ++ text_of (take i bytes) →
    high ≡ digit_for (get_or bytes i 0 / 16) → low ≡ digit_for (get_or bytes i 0 % 16) → later ≡ (before ++ high ∷ []) ++ low ∷ [] → later ≡ old ++ text_of (take (i + 1) bytes)
put_more bytes old before later i high low l inv h k put =
    let one : text_of (take (i + 1) bytes) ≡ text_of (take i bytes) ++ high ∷ low ∷ [] = ap text_of (take_more bytes i 0 l) ∙ text_append (take i bytes) (get_or bytes i 0 ∷ []) ∙ rw (h, k) in
    put ∙ rw (inv, one) (simp append_assoc)
