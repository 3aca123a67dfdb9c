use Rattle.consequences.proofs.Cuts.{same_cut_same_division, reopened_and_cut_again}
use Rattle.consequences.proofs.same_cut_same_division.Goals as goal

pub returns : goal.returns
returns c = record { same = same_cut_same_division; again = reopened_and_cut_again }
