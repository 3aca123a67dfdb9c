use Rattle.std.proofs.Common.{◌≡◌, ◌++◌, take, vec_items}
use Rattle.std.specs.List.{flat_map}
use Rattle.hexadecimal.specs.Digits.{text_of}
use Rattle.replies.proofs.parts.put_each.Given as goal

abbrev pub invariant-loop-entry : goal.invariant-loop-entry
invariant-loop-entry g l = vec_items l.out ≡ vec_items l.initial.out ++ text_of (flat_map g.T.Entry.bytes (take l.entry-index l.entries))
