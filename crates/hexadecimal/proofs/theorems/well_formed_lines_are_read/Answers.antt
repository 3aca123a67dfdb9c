use Rattle.hexadecimal.proofs.Formed.{read_when_well_formed, refused_when_not}
use Rattle.hexadecimal.proofs.theorems.well_formed_lines_are_read.Goals as goal

pub returns : goal.returns
returns c = record { read = read_when_well_formed; refused = refused_when_not }
