-- Digits that are read one by one, up to a largest number.
use Rattle.std.proofs.Common.{◌≡◌, ℕ, ◌+◌, ◌-◌, ◌*◌, ◌<◌, min, cond, List, [], ◌∷◌, length, get_or, drop, Some, None, Option, ap, inl, inr, arith}
use Rattle.std.specs.Option.{option_map}
use Rattle.std.proofs.lemmas.List.{drop_more}
use Rattle.std.proofs.lemmas.Bool.{cases_Bool}
use Rattle.command.specs.Numbers.{is_digit, decimal_after}

-- a number, or the largest
abbrev pub capped : ℕ → Option ℕ → Option ℕ
capped most o = option_map (λ n. min n most) o

-- what is above the largest number makes no difference
same_capped : (most : ℕ) (more : List ℕ) (m n : ℕ) → min m most ≡ min n most → capped most (decimal_after m more) ≡ capped most (decimal_after n more)
same_capped most [] m n e = ap Some e
same_capped most (b ∷ more) m n e = elim (cases_Bool (is_digit b)) [
  | inl t ↦ simp t (same_capped most more (m * 10 + (b - 48)) (n * 10 + (b - 48)) (omega arith))
  | inr t ↦ simp t
]

step_capped : (most b n d : ℕ) (more : List ℕ) → Some d ≡ cond (is_digit b) (Some (b - 48)) None →
    capped most (decimal_after n (b ∷ more)) ≡ capped most (decimal_after (min (min (n * 10) most + d) most) more)
step_capped most b n d more e = elim (cases_Bool (is_digit b)) [
  | inl t ↦ (let v : d ≡ b - 48 = grind (arith, simp t at e) in simp t (same_capped most more (n * 10 + (b - 48)) (min (min (n * 10) most + d) most) (omega arith)))
  | inr t ↦ (let z : ◌≡◌ {A = ℕ} 0 1 = cc (simp t at e) in absurd (omega arith))
]

-- one more digit
pub digit_more : (most : ℕ) (digits : List ℕ) (i n d : ℕ) → i < length digits → Some d ≡ cond (is_digit (get_or digits i 0)) (Some (get_or digits i 0 - 48)) None →
    capped most (decimal_after n (drop i digits)) ≡ capped most (decimal_after (min (min (n * 10) most + d) most) (drop (i + 1) digits))
digit_more most digits i n d h e = rw (drop_more digits i 0 h) (step_capped most (get_or digits i 0) n d (drop (i + 1) digits) e)
