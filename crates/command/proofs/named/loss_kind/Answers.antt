use Rattle.std.proofs.Common.{rules, ◌≡◌, codes, refl, arith}
use Rattle.std.proofs.lemmas.Slice.Eq.{text_from_reads}
use Rattle.command.proofs.named.loss_kind.Goals as goal

pub returns-in-squares : goal.returns-in-squares
returns-in-squares c =
    let e : c.args.name.now ≡ codes "squares" = text_from_reads c.args.name.now (codes "squares") (omega arith) (search rules) in rw e refl

pub returns-in-distances : goal.returns-in-distances
returns-in-distances c =
    let e : c.args.name.now ≡ codes "distances" = text_from_reads c.args.name.now (codes "distances") (omega arith) (search rules) in rw e refl

pub returns-in-votes : goal.returns-in-votes
returns-in-votes c =
    let e : c.args.name.now ≡ codes "votes" = text_from_reads c.args.name.now (codes "votes") (omega arith) (search rules) in rw e refl
