-- Numbers in bytes, and the bytes of a list one by one.
use Rattle.std.proofs.Common.{◌≡◌, ℕ, zero, suc, ◌+◌, ◌*◌, ◌/◌, ◌%◌, ◌^◌, ◌<◌, List, [], ◌∷◌, length, get_or, drop, sym, ap, ◌∙◌, arith}
use Rattle.std.proofs.lemmas.List.{drop_more, drop_all}
use Rattle.hexadecimal.specs.Theorems.{Bytes}
use Rattle.frames.specs.Numbers.{eight_at, eight_bytes}

pub two_back : (x : ℕ) → x < 2 ^ 16 → x / 256 % 256 * 256 + x % 256 ≡ x
two_back x l = omega arith

pub eight_back : (x : ℕ) → x < 2 ^ 64 → eight_at (eight_bytes x) 0 ≡ x
eight_back x l = omega arith

-- the bytes of a number that bytes write
pub two_of : (a b : ℕ) → a < 256 → b < 256 → ((a * 256 + b) / 256 % 256 ≡ a) × ((a * 256 + b) % 256 ≡ b)
two_of a b la lb = (omega arith, omega arith)

-- the same of eight bytes, high ones above the low seven
eight_bytes_of : (a b c d e f g h : ℕ) → a < 256 → b < 256 → c < 256 → d < 256 → e < 256 → f < 256 → g < 256 → h < 256 →
    eight_bytes (eight_at (a ∷ b ∷ c ∷ d ∷ e ∷ f ∷ g ∷ h ∷ []) 0) ≡ a ∷ b ∷ c ∷ d ∷ e ∷ f ∷ g ∷ h ∷ []
eight_bytes_of a b c d e f g h la lb lc ld le lf lg lh =
    let x : ℕ = eight_at (a ∷ b ∷ c ∷ d ∷ e ∷ f ∷ g ∷ h ∷ []) 0 in
    let p1 : x / 72057594037927936 % 256 ≡ a = omega arith in
    let p2 : x / 281474976710656 % 256 ≡ b = omega arith in
    let p3 : x / 1099511627776 % 256 ≡ c = omega arith in
    let p4 : x / 4294967296 % 256 ≡ d = omega arith in
    let p5 : x / 16777216 % 256 ≡ e = omega arith in
    let p6 : x / 65536 % 256 ≡ f = omega arith in
    let p7 : x / 256 % 256 ≡ g = omega arith in
    let p8 : x % 256 ≡ h = omega arith in
    cc

pub byte_at : (bytes : List ℕ) → Bytes bytes → (i : ℕ) → get_or bytes i 0 < 256
byte_at [] all i = omega arith
byte_at (b ∷ bytes) all zero = all.0
byte_at (b ∷ bytes) all (suc i) = byte_at bytes all.1 i

-- n bytes from place i on
abbrev pub each_from : ℕ → ℕ → List ℕ → List ℕ
each_from i zero bytes = []
each_from i (suc n) bytes = get_or bytes i 0 ∷ each_from (i + 1) n bytes

drop_each : (n i : ℕ) (bytes : List ℕ) → length bytes ≡ i + n → each_from i n bytes ≡ drop i bytes
drop_each zero i bytes e = sym (drop_all i bytes (omega arith))
drop_each (suc n) i bytes e =
    ap (λ (r : List ℕ). get_or bytes i 0 ∷ r) (drop_each n (i + 1) bytes (omega arith)) ∙ sym (drop_more bytes i 0 (omega arith))

-- a list whose length is known, one by one
pub each : (n : ℕ) (bytes : List ℕ) → length bytes ≡ n → each_from 0 n bytes ≡ bytes
each n bytes e = drop_each n 0 bytes (omega arith)

pub eight_of : (bytes : List ℕ) → Bytes bytes → eight_bytes (eight_at bytes 1) ≡ each_from 1 8 bytes
eight_of bytes all =
    eight_bytes_of (get_or bytes 1 0) (get_or bytes 2 0) (get_or bytes 3 0) (get_or bytes 4 0) (get_or bytes 5 0) (get_or bytes 6 0) (get_or bytes 7 0) (get_or bytes 8 0)
    (byte_at bytes all 1) (byte_at bytes all 2) (byte_at bytes all 3) (byte_at bytes all 4) (byte_at bytes all 5) (byte_at bytes all 6) (byte_at bytes all 7) (byte_at bytes all 8)

pub eight_fits : (bytes : List ℕ) → Bytes bytes → eight_at bytes 1 < 2 ^ 64
eight_fits bytes all =
    omega (arith, byte_at bytes all 1, byte_at bytes all 2, byte_at bytes all 3, byte_at bytes all 4, byte_at bytes all 5, byte_at bytes all 6, byte_at bytes all 7, byte_at bytes all 8)
