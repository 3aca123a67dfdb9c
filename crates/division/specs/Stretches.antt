-- Being allowed as a condition on each stretch by itself.
use Rattle.std.specs.Prelude.{◌≡◌, ℕ, ◌+◌, ◌<◌, ◌≤◌, List}
use Rattle.std.specs.List.{AllByRecursion}
use Rattle.division.specs.declared.mark.Mark.{Mark}
use Rattle.division.specs.Marks.{Covers}

-- a mark that can stand on some line; it may reach past the end of the line at hand
pub record WellFormed (k : Mark) : Type 0 where
  pub starts : 1 ≤ k.first
  pub rises : k.first < k.last
  pub zero_or_one : k.boundaries ≤ 1

-- The mark lets (a, b) be a stretch of a line of n readings; b is a boundary exactly where b < n.
-- A mark of no boundary: b is no boundary that it covers.
abbrev pub KeepsNone : ℕ → Mark → ℕ → ℕ → Type 0
KeepsNone n k a b = b < n → Covers k b → ⊥

-- A mark of one boundary: a and b are not both boundaries that it covers; the stretch does not hold all its gaps inside;
-- and the last stretch does not begin before it.
abbrev pub KeepsOne : ℕ → Mark → ℕ → ℕ → Type 0
KeepsOne n k a b = (b < n → Covers k a → Covers k b → ⊥) × (a < k.first → k.last ≤ b → ⊥) × (a < k.first → n ≤ b → ⊥)

pub record Permits (n a b : ℕ) (k : Mark) : Type 0 where
  pub none : k.boundaries ≡ 0 → KeepsNone n k a b
  pub one : 0 < k.boundaries → KeepsOne n k a b

-- (a, b) may be a stretch of an allowed division of n readings
pub record Permitted (marks : List Mark) (m n a b : ℕ) : Type 0 where
  pub rises : a < b
  pub long : a + m ≤ b
  pub marked : AllByRecursion (Permits n a b) marks
