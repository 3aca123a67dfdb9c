use Rattle.std.proofs.Common.{refl}
use Rattle.marks.proofs.Parts.{remove_is}
use Rattle.marks.proofs.table.part.remove.Goals as goal

pub returns : goal.returns
returns c = remove_is c.args.marks.now c.args.len c.args.at _ _ c.requires.0 c.requires.1 refl c.rotate_left.ensures.after
