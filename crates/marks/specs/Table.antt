-- The marks that a table holds, and those of an answer that may be a refusal.
use Rattle.std.specs.Prelude.{List, take, Ok, Err, Result}
use Rattle.fault.specs.declared.Fault.{Fault}
use Rattle.division.specs.declared.mark.Mark.{Mark}
use Rattle.marks.specs.declared.table.MarkTable.{MarkTable}

-- The marks that stand in the table, first to last.
abbrev pub marks_of : MarkTable → List Mark
marks_of t = take t.len t.marks

-- The answer with the marks of the table in its place.
abbrev pub listed : Result MarkTable Fault → Result (List Mark) Fault
listed (Ok t) = Ok (marks_of t)
listed (Err f) = Err f
