-- Prices at two penalties, and where two of them cross.
use Rattle.std.proofs.Common.{◌≡◌, ℕ, ◌+◌, ◌-◌, ◌*◌, ◌/◌, ◌%◌, ◌<◌, ◌≤◌, min, ◌⊎◌, ap, ◌∙◌, inl, inr, mod-lt, add-mul, mul-le-mul, mul-le-mul_left, mul-lt-mul_of_pos_right, mul-add, arith}
use Rattle.std.proofs.lemmas.Bool.{cases_eq, cases_lt}
use Rattle.std.proofs.lemmas.Nat.{div-add-mod'}
use Rattle.envelope.specs.Path.{cost_of}

-- a count that is no worse than a larger one stays so as the penalty rises
pub later_cost_of : (a p k j l m : ℕ) → a ≤ p → k ≤ j → cost_of a k l ≤ cost_of a j m → cost_of p k l ≤ cost_of p j m
later_cost_of a p k j l m h c d =
    let e : p ≡ a + (p - a) = omega arith in
    let x : p * k ≡ a * k + (p - a) * k = ap (λ y. y * k) e ∙ add-mul a (p - a) k in
    let y : p * j ≡ a * j + (p - a) * j = ap (λ y. y * j) e ∙ add-mul a (p - a) j in
    omega (arith, mul-le-mul_left {m = k} {n = j} (p - a) c)

pub dearer : (a k j l m : ℕ) → j ≤ k → cost_of a k l < cost_of a j m → l < m
dearer a k j l m c h = omega (arith, mul-le-mul_left {m = j} {n = k} a c)

abbrev pub up : ℕ → ℕ → ℕ
up d w = d / w + min 1 (d % w)

pub up_reaches : (d w : ℕ) → 0 < w → d ≤ up d w * w
up_reaches d w h = go (cases_eq (d % w) 0)
  where
    go : (d % w ≡ 0) ⊎ (d % w ≡ 0 → ⊥) → d ≤ up d w * w
    go (inl e) = let q : up d w ≡ d / w = omega arith in omega (arith, ap (λ x. x * w) q, div-add-mod' d w)
    go (inr e) = let q : up d w ≡ d / w + 1 = omega arith in omega (arith, ap (λ x. x * w) q, add-mul (d / w) 1 w, div-add-mod' d w, mod-lt d h)

pub up_first : (d w p : ℕ) → 0 < w → p < up d w → p * w < d
up_first d w p h b = go (cases_eq (d % w) 0)
  where
    go : (d % w ≡ 0) ⊎ (d % w ≡ 0 → ⊥) → p * w < d
    go (inl e) = let l : p < d / w = omega arith in omega (arith, mul-lt-mul_of_pos_right {m = p} {n = d / w} {k = w} l h, div-add-mod' d w)
    go (inr e) = let l : p ≤ d / w = omega arith in omega (arith, mul-le-mul {n₁ = p} {m₁ = w} {n₂ = d / w} {m₂ = w} l (omega arith), div-add-mod' d w)

pub up_small : (d w : ℕ) → 0 < w → up d w ≤ d
up_small d w h = go (cases_lt d (up d w))
  where
    go : (d < up d w) ⊎ (up d w ≤ d) → up d w ≤ d
    go (inl b) = absurd (omega (arith, up_first d w d h b, mul-le-mul {n₁ = d} {m₁ = 1} {n₂ = d} {m₂ = w} (omega arith) h))
    go (inr b) = b

pub crosses_at : (k j l m : ℕ) → j < k → l < m → cost_of (up (m - l) (k - j)) j m ≤ cost_of (up (m - l) (k - j)) k l
crosses_at k j l m c h =
    let e : k ≡ j + (k - j) = omega arith in
    let x : up (m - l) (k - j) * k ≡ up (m - l) (k - j) * j + up (m - l) (k - j) * (k - j) = ap (λ y. up (m - l) (k - j) * y) e ∙ mul-add (up (m - l) (k - j)) j (k - j) in
    omega (arith, up_reaches (m - l) (k - j) (omega arith))

pub crosses_not : (k j l m p : ℕ) → j < k → l < m → p < up (m - l) (k - j) → cost_of p k l < cost_of p j m
crosses_not k j l m p c h b =
    let e : k ≡ j + (k - j) = omega arith in
    let x : p * k ≡ p * j + p * (k - j) = ap (λ y. p * y) e ∙ mul-add p j (k - j) in
    omega (arith, up_first (m - l) (k - j) p (omega arith) b)
