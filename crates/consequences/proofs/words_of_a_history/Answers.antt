use Rattle.consequences.proofs.Words.{laid_mark_stands, unmarked_stands_no_more, reopened_is_not_cut, shortest_lasts}
use Rattle.consequences.proofs.words_of_a_history.Goals as goal

pub returns : goal.returns
returns c = record { laid = laid_mark_stands; unmarked = unmarked_stands_no_more; reopened = reopened_is_not_cut; shortest = shortest_lasts }
