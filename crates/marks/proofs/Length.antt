-- How many marks a table holds.
use Rattle.std.proofs.Common.{◌≡◌, length, arith}
use Rattle.std.proofs.lemmas.List.{length-take}
use Rattle.marks.specs.declared.table.MarkTable.{MarkTable}
use Rattle.marks.specs.Table.{marks_of}

pub length_marks : (t : MarkTable) → length (marks_of t) ≡ t.len
length_marks t = omega (arith, length-take t.len t.marks, t.few, t.whole)
