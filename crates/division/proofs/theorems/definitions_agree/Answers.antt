use Rattle.division.proofs.Listed.{all_listed}
use Rattle.division.proofs.Order.{later_in_words}
use Rattle.division.proofs.Tested.{allowed_tested, candidate_tested, beats_tested}
use Rattle.division.proofs.theorems.definitions_agree.Goals as goal

pub returns : goal.returns
returns c = record { listed = all_listed; allowed = allowed_tested; candidate = candidate_tested; beats = beats_tested; later = later_in_words }
