-- The digits that are printed of a number, and what is read of them.
use Rattle.std.proofs.Common.{◌≡◌, ℕ, ◌+◌, ◌-◌, ◌*◌, ◌/◌, ◌%◌, ◌^◌, ◌<◌, ◌≤◌, true, List, [], ◌∷◌, ◌++◌, length, Some, decimal as digits_of, ap, ◌∙◌, inl, inr, arith}
use Rattle.std.specs.List.{AllByRecursion}
use Rattle.std.proofs.lemmas.Fmt.{decimal_by_steps}
use Rattle.std.proofs.lemmas.Bool.Decides.{nat_tests}
use Rattle.std.proofs.lemmas.Bool.{cases_Bool}
use Rattle.command.specs.Numbers.{is_digit, decimal_after, decimal}
use Rattle.command.specs.Theorems.{NumbersStand}

-- a printable character that is no blank
pub record Printable (b : ℕ) : Type 0 where
  pub low : 33 ≤ b
  pub high : b ≤ 126

-- the digits write the number
pub record Writes (n : ℕ) (ds : List ℕ) : Type 0 where
  pub value : decimal ds ≡ Some n
  pub some : 0 < length ds
  pub plain : AllByRecursion Printable ds

digit_is : (r : ℕ) → r < 10 → is_digit (48 + r) ≡ true
digit_is r h = grind (arith, nat_tests)

after_push : (ds : List ℕ) (k n r : ℕ) → r < 10 → decimal_after k ds ≡ Some n → decimal_after k (ds ++ (48 + r) ∷ []) ≡ Some (n * 10 + r)
after_push [] k n r h e = let k-is : k ≡ n = cc in let d = digit_is r h in simp d (ap Some (omega arith))
after_push (b ∷ ds) k n r h e = elim (cases_Bool (is_digit b)) [
  | inl t ↦ simp t (after_push ds (k * 10 + (b - 48)) n r h (simp t at e))
  | inr t ↦ (let z : ◌≡◌ {A = ℕ} 0 1 = cc (simp t at e) in absurd (omega arith))
]

plain_push : (xs : List ℕ) (y : ℕ) → AllByRecursion Printable xs → Printable y → AllByRecursion Printable (xs ++ y ∷ [])
plain_push [] y all p = (p, tt)
plain_push (x ∷ xs) y all p = (all.0, plain_push xs y all.1 p)

writes_one : (n : ℕ) → n < 10 → Writes n ((48 + n) ∷ [])
writes_one n h = let d = digit_is n h in record { value = simp d (ap Some (omega arith)); some = omega arith; plain = (record { low = omega arith; high = omega arith }, tt) }

writes_more : (n : ℕ) (ds : List ℕ) → 10 ≤ n → Writes (n / 10) ds → Writes n (ds ++ (48 + n % 10) ∷ [])
writes_more n [] h w = absurd (omega (arith, w.some))
writes_more n (b ∷ ds) h w = record {
  value = after_push (b ∷ ds) 0 (n / 10) (n % 10) (omega arith) w.value ∙ ap Some (omega arith);
  some = omega arith;
  plain = plain_push (b ∷ ds) (48 + n % 10) w.plain (record { low = omega arith; high = omega arith });
}

pub printed_writes : (n : ℕ) → n < 2 ^ 64 → Writes n (digits_of n)
printed_writes n h = decimal_by_steps Writes writes_one writes_more n h

pub numbers_stand : NumbersStand
numbers_stand n h = (printed_writes n h).value
