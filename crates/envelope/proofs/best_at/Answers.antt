use Rattle.std.proofs.Common.{◌≤◌, length, sym, subst, arith}
use Rattle.envelope.specs.Next.{Small}
use Rattle.envelope.proofs.Turns.{small_at, small_loss}
use Rattle.envelope.proofs.best_at.Goals as goal

pub better-requires-clause-small : goal.better-requires-clause-small
better-requires-clause-small c =
    let s : length c.args.losses.now ≤ 512 = c.requires.fit.short in (
      subst Small (sym c.loop-k.invariant) (small_at c.args.losses.now c.args.penalty c.loop-k.k c.requires.fit (omega arith)),
      (omega arith, small_loss c.args.losses.now c.requires.fit c.loop-k.k c.in-Some.loss (omega arith) (sym c.in-Some.ensures)),
    )
