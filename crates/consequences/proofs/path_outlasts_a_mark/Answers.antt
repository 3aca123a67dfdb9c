use Rattle.consequences.proofs.Paths.{laid_and_unmarked_again}
use Rattle.consequences.proofs.path_outlasts_a_mark.Goals as goal

pub returns : goal.returns
returns c = laid_and_unmarked_again
