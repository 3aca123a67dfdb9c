-- What the chosen loss holds and stands for.
use Rattle.std.specs.Prelude.{ℕ, ◌^◌, List, ℤ, pos}
use Rattle.loss.specs.Table.{Table, Sound}
use Rattle.leaves.specs.Readings.{table_of, lowest, square, distance, differs}
use Rattle.leaves.specs.Held.{squares_readings, distances_readings, votes_readings}
use Rattle.leaves.specs.Soundness.{squares_sound, distances_sound, votes_sound}
use Rattle.leaves.specs.declared.kind.LossKind.{LossKind}
use Rattle.leaves.specs.declared.kind.LossKind.TheVariants.{Squares, Distances, Votes}
use Rattle.survey.specs.declared.held.Held.{Held}
use Rattle.survey.specs.declared.held.Held.TheVariants.{BySquares, ByDistances, ByVotes}

abbrev pub kind_of : Held → LossKind
kind_of (BySquares s) = Squares
kind_of (ByDistances s) = Distances
kind_of (ByVotes s) = Votes

abbrev pub readings_of : Held → List ℤ
readings_of (BySquares s) = squares_readings s
readings_of (ByDistances s) = distances_readings s
readings_of (ByVotes s) = votes_readings s

-- the lowest reading that the loss takes, and how many more levels there are
abbrev pub lowest_of : Held → ℤ
lowest_of (BySquares s) = lowest
lowest_of (ByDistances s) = lowest
lowest_of (ByVotes s) = pos 0

abbrev pub span_of : Held → ℕ
span_of (BySquares s) = 65535
span_of (ByDistances s) = 65535
span_of (ByVotes s) = 15

abbrev pub table_of_held : Held → Table
table_of_held (BySquares s) = table_of square (2 ^ 32) (squares_readings s)
table_of_held (ByDistances s) = table_of distance 65535 (distances_readings s)
table_of_held (ByVotes s) = table_of differs 1 (votes_readings s)

pub sound_held : (h : Held) → Sound (table_of_held h)
sound_held (BySquares s) = squares_sound s
sound_held (ByDistances s) = distances_sound s
sound_held (ByVotes s) = votes_sound s
