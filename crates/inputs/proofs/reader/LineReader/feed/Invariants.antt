use Rattle.std.proofs.Common.{◌≡◌, take, vec_items, fold}
use Rattle.inputs.specs.Reading.{read_by, next}
use Rattle.inputs.proofs.reader.LineReader.feed.Given as goal

abbrev pub invariant-loop-byte : goal.invariant-loop-byte
invariant-loop-byte g l =
    read_by l.self (g.A.Answerer.state l.answerer) (vec_items l.out)
    ≡ fold (next g.A.Answerer.step g.A.Answerer.reply) (read_by l.initial.self (g.A.Answerer.state l.initial.answerer) (vec_items l.initial.out)) (take l.byte-index l.part)
