use Rattle.hexadecimal.proofs.Back as back
use Rattle.hexadecimal.proofs.theorems.front_suffices.Goals as goal

pub returns : goal.returns
returns c = back.front_suffices
