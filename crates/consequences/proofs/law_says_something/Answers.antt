use Rattle.consequences.proofs.Words.{fresh_line_is_lawful, fresh_line_is_not_cut}
use Rattle.consequences.proofs.law_says_something.Goals as goal

pub returns : goal.returns
returns c = record { holds = fresh_line_is_lawful; fails = fresh_line_is_not_cut }
