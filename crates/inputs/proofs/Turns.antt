-- What one byte does, by its cases.
use Rattle.std.proofs.Common.{◌≡◌, ℕ, ◌<◌, false, eqb, List, [], ◌∷◌, ◌++◌, length, take, sym, ◌∙◌, arith}
use Rattle.std.proofs.lemmas.Bool.{ne_eqb}
use Rattle.std.proofs.lemmas.List.{take_all, take-append-le, length_push}
use Rattle.inputs.specs.Reading.{Read, next}

module _ {S : Type 0} (step : S → List ℕ → ℕ → S) (reply : S → List ℕ → ℕ → List ℕ) where
  pub line_goes_on : (line more out : List ℕ) (n b : ℕ) (s : S) → (n ≡ 65535 → ⊥) → (b ≡ 10 → ⊥) → more ≡ take 131 (line ++ b ∷ [])
      → ◌≡◌ {A = Read S} (record { line = more; lines = n; state = s; text = out }) (next step reply (record { line = line; lines = n; state = s; text = out }) b)
  line_goes_on line more out n b s p q e =
      let x : eqb n 65535 ≡ false = ne_eqb n 65535 p in
      let y : eqb b 10 ≡ false = ne_eqb b 10 q in
      simp (x, y, e)

-- a byte is kept where fewer than 131 are, and else passed over
pub kept : (front : List ℕ) (b : ℕ) → length front < 131 → front ++ b ∷ [] ≡ take 131 (front ++ b ∷ [])
kept front b l = sym (take_all 131 (front ++ b ∷ []) (omega (arith, length_push front b)))

pub passed_over : (front : List ℕ) (b : ℕ) → length front ≡ 131 → front ≡ take 131 (front ++ b ∷ [])
passed_over front b l = sym (take-append-le 131 front (b ∷ []) (omega arith) ∙ take_all 131 front (omega arith))
