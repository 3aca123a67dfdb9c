use Rattle.path.proofs.Named.{path_names_the_cut, steps_name_every_cut, no_count_no_cut}
use Rattle.path.proofs.theorems.path_names_every_cut.Goals as goal

pub returns : goal.returns
returns c = record { at = path_names_the_cut; steps = steps_name_every_cut; none = no_count_no_cut }
