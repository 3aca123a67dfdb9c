use Rattle.std.proofs.Common.{◌∷◌, ◌++◌, length, vec_items, ap, ◌∙◌}
use Rattle.std.specs.List.{flat_map}
use Rattle.hexadecimal.specs.Digits.{text_of}
use Rattle.frames.specs.Numbers.{two_bytes, eight_bytes}
use Rattle.replies.proofs.Behind.{put_then}
use Rattle.replies.proofs.parts.put_cut.Goals as goal

pub returns : goal.returns
returns c =
    let gaps = c.args.boundaries.now in
    put_then c.put_each.result (c.args.kind ∷ (eight_bytes c.args.total ++ two_bytes (length gaps))) (flat_map two_bytes gaps) (vec_items c.args.out.now)
    (vec_items c.put_text.new.out) (vec_items c.put_each.new.out)
    (c.in_ok-put_text.ensures ∙ ap (λ bs. vec_items c.args.out.now ++ text_of bs) c.cut_front.ensures) c.put_each.ensures
