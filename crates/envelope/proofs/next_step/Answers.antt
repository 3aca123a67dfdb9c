use Rattle.std.proofs.Common.{length, sym, subst}
use Rattle.envelope.specs.Path.{losses_in}
use Rattle.envelope.specs.Next.{Next}
use Rattle.envelope.proofs.Named.{path_names_cheapest}
use Rattle.envelope.proofs.Turns.{next_none, next_some}
use Rattle.envelope.proofs.next_step.Goals as goal

pub returns-in_err-overtaken : goal.returns-in_err-overtaken
returns-in_err-overtaken c =
    subst (Next (losses_in c.args.losses.now) (length c.args.losses.now) c.args.at) (sym c.from_residual.ensures)
    (next_none (losses_in c.args.losses.now) (length c.args.losses.now) c.args.at (((path_names_cheapest _ _ _).some c.args.at).0 c.requires.best) c.in_err-overtaken.ensures)

pub returns : goal.returns
returns c =
    next_some (losses_in c.args.losses.now) (length c.args.losses.now) c.args.at (((path_names_cheapest _ _ _).some c.args.at).0 c.requires.best)
    c.in_ok-overtaken.field-0 c.in_ok-overtaken.ensures c.best_at.result (sym c.best_at.ensures)
