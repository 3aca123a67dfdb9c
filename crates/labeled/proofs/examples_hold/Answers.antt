use Rattle.std.proofs.Common.{refl}
use Rattle.division.specs.Division.{all_divisions}
use Rattle.labeled.proofs.examples_hold.Goals as goal

pub returns : goal.returns
unfolding all_divisions
returns c =
    record {
      whole = refl;
      front = refl;
      middle = refl;
      penalty_0 = record { wins = refl; costs = refl };
      penalty_1 = record { wins = refl; costs = refl };
      penalty_16 = record { wins = refl; costs = refl };
      penalty_17 = record { wins = refl; costs = refl };
      marked = record { wins = refl; costs = refl };
      shortest_3 = record { wins = refl; costs = refl };
      none_allowed = refl;
      equal_levels = record { wins = refl; costs = refl };
      count_4 = refl;
      count_3_of_2 = refl;
      later_of_equals = refl;
      by_distances = refl;
      by_votes = refl;
      below_zero = refl;
    }
