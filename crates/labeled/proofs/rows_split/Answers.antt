use Rattle.labeled.proofs.Solved.{row_splits, one_level}
use Rattle.labeled.proofs.rows_split.Goals as goal

pub returns : goal.returns
returns c = record { splits = row_splits; level = one_level }
