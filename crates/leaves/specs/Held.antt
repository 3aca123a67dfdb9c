-- The readings that each loss holds, in their order.
use Rattle.std.specs.Prelude.{List, ℤ, pos}
use Rattle.leaves.specs.declared.squares.Squares.{Squares}
use Rattle.leaves.specs.declared.distances.Distances.{Distances}
use Rattle.leaves.specs.declared.votes.Votes.{Votes}
use Rattle.leaves.specs.Readings.{lowest}
use Rattle.leaves.specs.Kept.{readings_at}

abbrev pub squares_readings : Squares → List ℤ
squares_readings s = readings_at lowest s.held.distances.items

abbrev pub distances_readings : Distances → List ℤ
distances_readings s = readings_at lowest s.held.distances.items

abbrev pub votes_readings : Votes → List ℤ
votes_readings s = readings_at (pos 0) s.held.distances.items
