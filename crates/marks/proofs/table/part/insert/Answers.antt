use Rattle.std.proofs.Common.{refl}
use Rattle.marks.proofs.Parts.{insert_is}
use Rattle.marks.proofs.table.part.insert.Goals as goal

pub returns : goal.returns
returns c = insert_is c.args.marks.now c.args.len c.args.at c.args.mark _ _ c.requires.0 c.requires.1 refl c.rotate_right.ensures.after
