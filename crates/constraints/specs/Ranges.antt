-- Which starts can precede an end.
use Rattle.std.specs.Prelude.{ℕ, ◌<◌, ◌≤◌}
use Rattle.division.specs.Stretches.{Permitted}
use Rattle.marks.specs.Table.{marks_of}
use Rattle.constraints.specs.declared.Constraints.{Constraints}
use Rattle.constraints.specs.declared.StartRange.{StartRange}

-- (a, b) may be a stretch
abbrev pub permitted : Constraints → ℕ → ℕ → Type 0
permitted c a b = Permitted (marks_of c.marks.now) c.shortest c.n a b

-- the start a is one of the range
abbrev pub InRange : StartRange → ℕ → Type 0
InRange r a = (r.first ≤ a) × (a < r.past)
