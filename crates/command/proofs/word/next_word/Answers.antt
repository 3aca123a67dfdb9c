use Rattle.std.proofs.Common.{refl}
use Rattle.command.proofs.Split.{none_left, word_within, first_left}
use Rattle.command.proofs.word.next_word.Goals as goal

pub returns-in_err-text : goal.returns-in_err-text
returns-in_err-text c = rw c.from_residual.ensures (none_left c.args.text.now c.in_err-text.ensures)

pub split_at-requires : goal.split_at-requires
split_at-requires c = word_within c.args.text.now _ c.in_ok-text.field-0 c.in_ok-text.ensures refl c.unwrap_or.result c.word_end.result c.word_end.ensures c.unwrap_or.ensures

pub returns : goal.returns
returns c =
    first_left c.args.text.now _ c.in_ok-text.field-0 c.in_ok-text.ensures refl c.unwrap_or.result c.word_end.result c.word_end.ensures c.unwrap_or.ensures
    c.split_at.result.0.now c.split_at.result.1.now c.split_at.ensures.front c.split_at.ensures.back
