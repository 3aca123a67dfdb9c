-- What the search needs of a loss.
use Rattle.std.specs.Prelude.{ℕ, ◌^◌, ◌≤◌}
use Rattle.loss.specs.Table.{Table}

-- the loss is not too heavy, and stands for t readings or more
pub record Usable (l : Table) (t : ℕ) : Type 0 where
  pub light : l.ceiling ≤ 2 ^ 40
  pub long : t ≤ l.length
