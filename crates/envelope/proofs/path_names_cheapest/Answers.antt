use Rattle.envelope.proofs.Named.{path_names_cheapest}
use Rattle.envelope.proofs.path_names_cheapest.Goals as goal

pub returns : goal.returns
returns c = path_names_cheapest
