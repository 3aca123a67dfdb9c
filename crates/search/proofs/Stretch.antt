-- What a loss answers where it is asked rightly.
use Rattle.std.proofs.Common.{◌≡◌, ℕ, ◌-◌, ◌*◌, ◌^◌, ◌<◌, ◌≤◌, Ok, Err, mul-le-mul_right, arith}
use Rattle.std.proofs.lemmas.Bool.Decides.{nat_tests}
use Rattle.fault.specs.declared.Fault.{Fault}
use Rattle.loss.specs.Table.{Table, Sound, answer}
use Rattle.search.specs.Usable.{Usable}

pub lost : (l : Table) (a t : ℕ) → Usable l t → a < t → answer l a t ≡ Ok (l.loss a t)
lost l a t h lt = let p = h.light in let q = h.long in grind (arith, nat_tests)

pub lost_little : (l : Table) (a t : ℕ) → Sound l → Usable l t → a < t → l.loss a t ≤ 2 ^ 40 * (t - a)
lost_little l a t s h lt = let u = s.under a t h.light lt h.long in let v = mul-le-mul_right (t - a) h.light in omega (arith, u, v)

pub lost_ok : (l : Table) (a t v : ℕ) → Usable l t → a < t → Ok v ≡ answer l a t → v ≡ l.loss a t
lost_ok l a t v h lt e = let k = lost l a t h lt in cc

pub lost_err : (l : Table) (a t : ℕ) (f : Fault) → Usable l t → a < t → Err f ≡ answer l a t → ⊥
lost_err l a t f h lt e = let k = lost l a t h lt in let z : ◌≡◌ {A = ℕ} 0 1 = cc in omega arith
