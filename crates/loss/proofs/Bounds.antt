-- How much the stretches of a loss that is not too heavy can lose.
use Rattle.std.proofs.Common.{◌≡◌, ℕ, ◌+◌, ◌-◌, ◌*◌, ◌^◌, ◌<◌, ◌≤◌, ap, ◌∙◌, mul-le-mul, mul-add, arith}
use Rattle.loss.specs.Table.{Table, Sound}

-- no more than 2^40 for each reading
pub stretch_bound : (t : Table) → Sound t → (a b : ℕ) → t.ceiling ≤ 2 ^ 40 → a < b → b ≤ t.length → 2 ^ 40 * a + t.loss a b ≤ 2 ^ 40 * b
stretch_bound t sound a b light ab bn =
    let u = sound.under a b light ab bn in
    let v : t.ceiling * (b - a) ≤ 2 ^ 40 * (b - a) = mul-le-mul light (omega arith) in
    let e : b ≡ a + (b - a) = omega arith in
    let w : 2 ^ 40 * b ≡ 2 ^ 40 * a + 2 ^ 40 * (b - a) = ap (λ (n : ℕ). 2 ^ 40 * n) e ∙ mul-add (2 ^ 40) a (b - a) in
    omega (arith, u, v, w)
