use Rattle.std.proofs.Common.{◌∙◌, rules}
use Rattle.hexadecimal.proofs.Turns.{read_more}
use Rattle.hexadecimal.proofs.line.read_digits.Goals as goal

pub loop-left-preserved : goal.loop-left-preserved
loop-left-preserved c = (
  search rules,
  c.loop-left.invariant.1
      ∙ read_more c.loop-left.left.now c.loop-left.bytes.items c.push.new.self.items c.in_ok-high.high c.in_ok-low.low (search rules) (search rules) (search rules) c.push.ensures.items,
)
