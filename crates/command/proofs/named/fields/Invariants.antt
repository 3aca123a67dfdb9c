use Rattle.std.proofs.Common.{◌≡◌, length, vec_items}
use Rattle.command.specs.Words.{words}
use Rattle.command.specs.Line.{read_all}
use Rattle.command.proofs.Gathered.{after}
use Rattle.command.proofs.named.fields.Given as goal

abbrev pub invariant-loop-word : goal.invariant-loop-word
invariant-loop-word g l = read_all g.T.Field.means (words l.text) ≡ after (vec_items l.all) (read_all g.T.Field.means (words l.left))

abbrev pub decreases-loop-word : goal.decreases-loop-word
decreases-loop-word g l = length l.left
