use Rattle.replies.proofs.Apart as apart
use Rattle.replies.proofs.theorems.replies_differ.Goals as goal

pub returns : goal.returns
returns c = apart.replies_differ
