-- How tallies compare, and what a further stretch makes of them.
use Rattle.std.specs.Prelude.{◌≡◌, ℕ, Bool, true, false}

-- a strict order in which different tallies compare
pub record Order {V : Type 0} (below : V → V → Bool) : Type 0 where
  pub never : (x : V) → below x x ≡ false
  pub trans : (x y z : V) → below x y ≡ true → below y z ≡ true → below x z ≡ true
  pub same : (x y : V) → below x y ≡ false → below y x ≡ false → x ≡ y

-- a tally over a table of losses: `zero` before any stretch, `step a b v` after the stretch (a, b), `below x y` where x is smaller
pub record Tallying (V : Type 0) : Type 0 where
  pub zero : V
  pub step : ℕ → ℕ → V → V
  pub below : V → V → Bool

abbrev pub tallying : {M V : Type 0} → V → (M → V → ℕ → ℕ → V) → (V → V → Bool) → M → (ℕ → ℕ → ℕ) → Tallying V
tallying zero added below m table = record { zero = zero; step = λ a b v. added m v a (table a b); below = below }

-- the same stretch leaves the smaller tally smaller
abbrev pub Strict : {V : Type 0} → Tallying V → Type 0
Strict {V} m = (a b : ℕ) (x y : V) → m.below x y ≡ true → m.below (m.step a b x) (m.step a b y) ≡ true

-- the same stretch leaves what is no smaller no smaller
abbrev pub Weak : {V : Type 0} → Tallying V → Type 0
Weak {V} m = (a b : ℕ) (x y : V) → m.below x y ≡ false → m.below (m.step a b x) (m.step a b y) ≡ false
