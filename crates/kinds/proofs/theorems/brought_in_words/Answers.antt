use Rattle.kinds.proofs.Brought.{brought_in_words}
use Rattle.kinds.proofs.theorems.brought_in_words.Goals as goal

pub returns : goal.returns
returns c = brought_in_words
