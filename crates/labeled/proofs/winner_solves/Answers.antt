use Rattle.labeled.proofs.Solved.{winner_solves, winner_kept_between, no_winner_no_choice}
use Rattle.labeled.proofs.winner_solves.Goals as goal

pub returns : goal.returns
returns c = record { solves = winner_solves; between = winner_kept_between; none = no_winner_no_choice }
