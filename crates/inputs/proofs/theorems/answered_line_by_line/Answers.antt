use Rattle.inputs.proofs.InWords.{one_each}
use Rattle.inputs.proofs.Apart.{text_apart}
use Rattle.inputs.proofs.Lined.{line_by_line}
use Rattle.inputs.proofs.theorems.answered_line_by_line.Goals as goal

pub returns : goal.returns
returns g c =
    record {
      lines = line_by_line g.A.Answerer.step g.A.Answerer.reply g.met.A.Answerer.stepped g.met.A.Answerer.replied;
      apart = text_apart g.A.Answerer.step g.A.Answerer.reply;
      each = one_each g.A.Answerer.step g.A.Answerer.reply;
    }
