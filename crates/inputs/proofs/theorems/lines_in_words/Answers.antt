use Rattle.inputs.proofs.InWords.{lines_in_words}
use Rattle.inputs.proofs.theorems.lines_in_words.Goals as goal

pub returns : goal.returns
returns c = lines_in_words
