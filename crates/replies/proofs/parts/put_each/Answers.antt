use Rattle.std.proofs.Common.{◌++◌, vec_items, ap, ◌∙◌}
use Rattle.hexadecimal.specs.Digits.{text_of}
use Rattle.replies.proofs.Lists.{put_more}
use Rattle.replies.proofs.parts.put_each.Goals as goal

pub loop-entry-preserved : goal.loop-entry-preserved
loop-entry-preserved g c =
    put_more g.T.Entry.bytes c.args.entries.now c.loop-entry.entry-index c.entry-item.result (vec_items c.args.out.now) (vec_items c.loop-entry.out) (vec_items c.put.new.out)
    c.loop-entry-test.true c.loop-entry.invariant
    (c.in_ok-put.ensures ∙ ap (λ e. vec_items c.loop-entry.out ++ text_of (g.T.Entry.bytes e)) c.entry-item.is)
