-- The readings that each kind of line holds.
use Rattle.std.specs.Prelude.{[]}
use Rattle.leaves.specs.declared.squares.Squares.{Squares}
use Rattle.loss.specs.Table.{Sound}
use Rattle.layers.specs.Layers.{weighted}
use Rattle.layers.specs.Kept.{paired_sound, weighted_sound}
use Rattle.leaves.specs.Readings.{table_of, differs}
use Rattle.leaves.specs.Held.{squares_readings, votes_readings}
use Rattle.leaves.specs.Soundness.{squares_sound, votes_sound}
use Rattle.kinds.specs.declared.pair_readings.PairReadings.{PairReadings}
use Rattle.kinds.specs.Sides.{Sides, port_table, pair_table}

abbrev pub port_alone : Squares → Sides
port_alone s = record { port = squares_readings s; starboard = [] }

abbrev pub both_sides : PairReadings → Sides
both_sides s = record { port = squares_readings s.pair.port; starboard = votes_readings s.pair.starboard.below }

-- the losses of both sides, added, keep the rules of a loss
pub pair_sound : (s : PairReadings) → Sound (pair_table (both_sides s))
pair_sound s =
    let votes = table_of differs 1 (votes_readings s.pair.starboard.below) in
    paired_sound (port_table (both_sides s)) (weighted 100 votes) (squares_sound s.pair.port) (weighted_sound 100 votes (votes_sound s.pair.starboard.below))
