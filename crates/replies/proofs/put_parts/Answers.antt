use Rattle.std.proofs.Common.{vec_items, ap}
use Rattle.replies.specs.Answered.{answered}
use Rattle.replies.specs.declared.Reply.TheVariants.{CutByPenalty, CutByCount}
use Rattle.replies.proofs.Behind.{put_for}
use Rattle.replies.proofs.put_parts.Goals as goal

pub returns-in-CutByPenalty : goal.returns-in-CutByPenalty
returns-in-CutByPenalty c =
    let x = c.in-CutByPenalty in
    put_for (answered (CutByPenalty x.total x.boundaries)) (answered c.args.reply.now) c.put_cut.result (vec_items c.args.out.now) (vec_items c.put_cut.new.out)
    (ap answered x.is) c.put_cut.ensures

pub returns-in-CutByCount : goal.returns-in-CutByCount
returns-in-CutByCount c =
    let x = c.in-CutByCount in
    let put = c.put_cut-in-CutByCount in
    put_for (answered (CutByCount x.total x.boundaries)) (answered c.args.reply.now) put.result (vec_items c.args.out.now) (vec_items put.new.out)
    (ap answered x.is) put.ensures
