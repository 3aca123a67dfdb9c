use Rattle.division.proofs.Best.{winner_wins, one_wins, winner_costs_least}
use Rattle.division.proofs.theorems.winner_is_the_best_of_all.Goals as goal

pub returns : goal.returns
returns c = record { wins = winner_wins; one = one_wins; least = winner_costs_least }
