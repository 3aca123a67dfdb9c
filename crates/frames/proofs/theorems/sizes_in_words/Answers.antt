use Rattle.frames.proofs.Sizes as sizes
use Rattle.frames.proofs.theorems.sizes_in_words.Goals as goal

pub returns : goal.returns
returns c = sizes.sizes_in_words
