-- Readings are read back from their bytes, and their bytes from them.
use Rattle.std.proofs.Common.{◌≡◌, ℕ, ◌+◌, ◌*◌, ◌/◌, ◌%◌, ◌^◌, ◌<◌, List, [], ◌∷◌, ◌++◌, ℤ, pos, negsuc, refl, ap, ◌∙◌, arith, w16, to_z, of_z}
use lib.Signed.{mag}
use Rattle.std.proofs.lemmas.Int.{to_z-of_z, of_z-to_z}
use Rattle.std.specs.List.{flat_map}
use Rattle.frames.specs.Readings.{reading_of, reading_bytes, readings_in, pair_bytes, pairs_in}
use Rattle.frames.specs.Theorems.{ReadingsReadBack, ReadingsWrittenBack, PairsReadBack, PairsWrittenBack}
use Rattle.frames.proofs.Numbers.{two_back, two_of}

bits_fit : (x : ℤ) → mag x < 2 ^ 15 → of_z w16 x < 2 ^ 16
bits_fit (pos n) l = omega arith
bits_fit (negsuc n) l = omega arith

-- one reading, there and back
reading_back : (x : ℤ) → mag x < 2 ^ 15 → to_z w16 (of_z w16 x / 256 % 256 * 256 + of_z w16 x % 256) ≡ x
reading_back x l = rw (two_back (of_z w16 x) (bits_fit x l)) (to_z-of_z w16 x (record { sfits = l }))

bytes_back : (a b : ℕ) → a < 256 → b < 256 → reading_bytes (reading_of a b) ≡ a ∷ b ∷ []
bytes_back a b la lb =
    let whole : of_z w16 (to_z w16 (a * 256 + b)) ≡ a * 256 + b = of_z-to_z w16 (a * 256 + b) (omega arith) in
    let number = two_of a b la lb in
    cc

pub readings_read_back : ReadingsReadBack
readings_read_back [] all = refl
readings_read_back (x ∷ xs) all = rw (reading_back x all.0, readings_read_back xs all.1) refl

pub readings_written_back : ReadingsWrittenBack
readings_written_back [] all even = refl
readings_written_back (a ∷ []) all even = absurd (omega arith)
readings_written_back (a ∷ b ∷ rest) all even =
    ap (λ (r : List ℕ). r ++ flat_map reading_bytes (readings_in rest)) (bytes_back a b all.0 all.1.0)
    ∙ ap (λ (r : List ℕ). a ∷ b ∷ r) (readings_written_back rest all.1.1 (omega arith))

pub pairs_read_back : PairsReadBack
pairs_read_back [] all = refl
pairs_read_back (x ∷ xs) all = rw (reading_back x.port all.0.0, pairs_read_back xs all.1) refl

pub pairs_written_back : PairsWrittenBack
pairs_written_back [] all whole = refl
pairs_written_back (a ∷ []) all whole = absurd (omega arith)
pairs_written_back (a ∷ b ∷ []) all whole = absurd (omega arith)
pairs_written_back (a ∷ b ∷ k ∷ rest) all whole =
    ap (λ (r : List ℕ). (r ++ k ∷ []) ++ flat_map pair_bytes (pairs_in rest)) (bytes_back a b all.0 all.1.0)
    ∙ ap (λ (r : List ℕ). a ∷ b ∷ k ∷ r) (pairs_written_back rest all.1.1.1 (omega arith))
