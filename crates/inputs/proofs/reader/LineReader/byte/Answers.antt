use Rattle.std.proofs.Common.{vec_items, ◌∙◌, rules}
use Rattle.inputs.proofs.Turns.{line_goes_on, kept, passed_over}
use Rattle.inputs.proofs.reader.LineReader.byte.Goals as goal

pub returns-then-not-is_full : goal.returns-then-not-is_full
returns-then-not-is_full g c =
    let was = c.args.self.now in
    line_goes_on g.A.Answerer.step g.A.Answerer.reply was.front.items c.push.new.self.items (vec_items c.args.out.now) was.lines c.args.byte
    (g.A.Answerer.state c.args.answerer.now) (search rules) (search rules) (c.push.ensures.items ∙ kept was.front.items c.args.byte (search rules))

pub returns-else-not-is_full : goal.returns-else-not-is_full
returns-else-not-is_full g c =
    let was = c.args.self.now in
    line_goes_on g.A.Answerer.step g.A.Answerer.reply was.front.items was.front.items (vec_items c.args.out.now) was.lines c.args.byte
    (g.A.Answerer.state c.args.answerer.now) (search rules) (search rules) (passed_over was.front.items c.args.byte (search rules))
