use Rattle.leaves.specs.LeastLevel.{least_of_all, least_is_one, least_between, reached_between, prices_rise}
use Rattle.leaves.proofs.theorems.least_stands.Goals as goal

pub returns : goal.returns
returns c = (least_of_all, (least_is_one, (least_between, (reached_between, prices_rise))))
