-- What an answer tells.
use Rattle.std.proofs.Common.{◌≡◌, ℕ, ◌-◌, ◌*◌, ◌^◌, ◌<◌, ◌≤◌, Ok, mul-le-mul, arith}
use Rattle.std.proofs.lemmas.Bool.Decides.{nat_tests}
use Rattle.loss.specs.Table.{Table, Sound, answer}
use Rattle.layers.specs.Layers.{weighted}
use Rattle.layers.specs.Kept.{weighted_sound}

pub answered : (l : Table) (a b t : ℕ) → Ok t ≡ answer l a b → (l.ceiling ≤ 2 ^ 40) × (a < b) × (b ≤ l.length) × (t ≡ l.loss a b)
answered l a b t h = grind (arith, nat_tests)

-- a stretch of a sound loss fits
pub bounded : (l : Table) (a b t : ℕ) → Sound l → Ok t ≡ answer l a b → (l.ceiling ≤ 2 ^ 40) × (a < b) × (b ≤ l.length) × (t ≤ l.ceiling * (b - a))
bounded l a b t sound h =
    let e = answered l a b t h in
    let u : l.loss a b ≤ l.ceiling * (b - a) = sound.under a b e.0 e.1 e.2 in
    (e.0, e.1, e.2, rw e.3 u)

pub small : (m c d : ℕ) → m ≤ c * d → c ≤ 2 ^ 40 → d ≤ 65535 → m ≤ 2 ^ 56
small m c d h low few = let p : c * d ≤ 2 ^ 40 * 65535 = mul-le-mul low few in omega arith

-- what a layer makes of answers that are given
pub weighted_small : (w : ℕ) (l : Table) (a b t : ℕ) → Sound l → (weighted w l).ceiling ≤ 2 ^ 40 → Ok t ≡ answer l a b → w * t ≤ 2 ^ 56
weighted_small w l a b t sound low h =
    let e = answered l a b t h in
    let u : w * l.loss a b ≤ (weighted w l).ceiling * (b - a) = (weighted_sound w l sound).under a b low e.1 e.2 in
    rw e.3 (small (w * l.loss a b) (weighted w l).ceiling (b - a) u low (omega (arith, sound.short, e.2)))

pub stretch_small : (l : Table) (a b t : ℕ) → Sound l → Ok t ≡ answer l a b → t ≤ 2 ^ 56
stretch_small l a b t sound h =
    let e = bounded l a b t sound h in
    small t l.ceiling (b - a) e.3 e.0 (omega (arith, sound.short, e.2))

-- an answer that is given
pub given_ok : (l : Table) (a b t : ℕ) → l.ceiling ≤ 2 ^ 40 → a < b → b ≤ l.length → t ≡ l.loss a b → Ok t ≡ answer l a b
given_ok l a b t low ab bn e = grind (arith, nat_tests)
