-- What the answer to a reading that is offered tells, and what is kept once it is taken.
use Rattle.std.proofs.Common.{◌≡◌, ℕ, ◌<◌, ◌≤◌, Bool, true, false, cond, ltb, ℤ, ◌-ℤ◌, nat_abs, Ok, Err, refl, arith}
use Rattle.std.proofs.lemmas.Int.{ints}
use Rattle.std.proofs.lemmas.Bool.Decides.{nat_tests}
use Rattle.fault.specs.declared.Fault.TheVariants.{ReadingOutOfRange, TooManyReadings}
use Rattle.leaves.specs.Readings.{Between}
use Rattle.leaves.specs.Taking.{between, admitted}

pub between_tells : (lo : ℤ) (span : ℕ) (x : ℤ) → between lo span x ≡ true → Between lo span x
between_tells lo span x h = (grind (arith, ints), grind (arith, ints))

pub admitted_at : (lo : ℤ) (span held : ℕ) (x m : ℤ) → between lo span x ≡ true → held < 512 → m ≡ x -ℤ lo → Ok (nat_abs m) ≡ admitted lo span held x
admitted_at lo span held x m b room e = let l : ltb held 512 ≡ true = grind (arith, nat_tests) in simp (b, l, e)

given_tells : (b t : Bool) (m u : ℕ) → Ok u ≡ cond b (cond t (Ok m) (Err TooManyReadings)) (Err ReadingOutOfRange) → (b ≡ true) × (t ≡ true) × (u ≡ m)
given_tells true true m u h = (refl, refl, cc)
given_tells true false m u h = let z : ◌≡◌ {A = ℕ} 0 1 = cc in absurd (omega arith)
given_tells false t m u h = let z : ◌≡◌ {A = ℕ} 0 1 = cc in absurd (omega arith)

-- a reading that is admitted is not the 513th, and is not too far from lo
pub fitting : (lo : ℤ) (span held : ℕ) (x : ℤ) (u : ℕ) → Ok u ≡ admitted lo span held x → (held < 512) × (u ≤ span)
fitting lo span held x u h =
    let t = given_tells (between lo span x) (ltb held 512) (nat_abs (x -ℤ lo)) u h in
    let fit = between_tells lo span x t.0 in
    let lt = t.1 in
    (grind (arith, nat_tests), omega (arith, ints, fit.0, fit.1, t.2))
