use Rattle.envelope.proofs.Chains.{one_path}
use Rattle.envelope.proofs.one_path.Goals as goal

pub returns : goal.returns
returns c = one_path
