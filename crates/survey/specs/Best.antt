-- The winning division of the line that is worked on.
use Rattle.std.specs.Prelude.{ℕ, List, Option}
use Rattle.division.specs.Winner.{Criterion, winner}
use Rattle.marks.specs.Table.{marks_of}
use Rattle.survey.specs.declared.state.Survey.{Survey}
use Rattle.survey.specs.Held.{table_of_held}

abbrev pub best_division : Criterion → Survey → Option (List ℕ)
best_division c s = winner c (table_of_held s.held).loss (marks_of s.marks) s.shortest (table_of_held s.held).length
