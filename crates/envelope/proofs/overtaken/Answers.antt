use Rattle.std.proofs.Common.{◌≡◌, ◌<◌, ap, ◌∙◌, sym, subst, arith}
use Rattle.std.proofs.lemmas.List.{length-take, get_or-take}
use Rattle.envelope.specs.Path.{present, losses_in}
use Rattle.envelope.specs.Next.{Overtaken, sooner}
use Rattle.envelope.proofs.Turns.{count_below, fewer_dearer, overtaken_more}
use Rattle.envelope.proofs.overtaken.Goals as goal

pub slice_bounds-loss-items-end : goal.slice_bounds-loss-items-end
slice_bounds-loss-items-end c = omega (arith, length-take c.from.result c.args.losses.now, count_below c.args.losses.now c.args.at c.requires.best)

pub crossed_by-requires-clause-dearer : goal.crossed_by-requires-clause-dearer
crossed_by-requires-clause-dearer c =
    let k : c.loop-k.k < c.args.at.count = omega (arith, length-take c.from.result c.args.losses.now) in
    let e = c.present_loss.ensures ∙ ap present (get_or-take c.from.result c.args.losses.now c.loop-k.k 0 (omega arith)) in
    fewer_dearer c.args.losses.now c.args.at c.requires.best c.loop-k.k c.present_loss.result (sym e) k

pub loop-k-preserved : goal.loop-k-preserved
loop-k-preserved c =
    let k : c.loop-k.k < c.args.at.count = omega (arith, length-take c.from.result c.args.losses.now) in
    let e = c.present_loss.ensures ∙ ap present (get_or-take c.from.result c.args.losses.now c.loop-k.k 0 (omega arith)) in
    let r = c.earlier-first.ensures ∙ ap (sooner c.loop-k.first) c.crossed_by.ensures in
    subst (Overtaken (losses_in c.args.losses.now) c.args.at _) (sym r)
    (overtaken_more c.args.losses.now c.args.at c.requires.best c.requires.fit c.loop-k.k c.present_loss.result c.loop-k.first (sym e) k c.loop-k.invariant)

pub returns : goal.returns
returns c =
    let e : c.loop-k.k ≡ c.args.at.count = omega (arith, length-take c.from.result c.args.losses.now, count_below c.args.losses.now c.args.at c.requires.best) in
    subst (λ j. Overtaken (losses_in c.args.losses.now) c.args.at j c.loop-k.first) e c.loop-k.invariant
