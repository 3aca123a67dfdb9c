use Rattle.std.proofs.Common.{◌≡◌, ◌+◌, ◌-◌, ◌*◌, ◌≤◌, ◌++◌, length, take, vec_items, vec_len, vec_capacity}
use Rattle.hexadecimal.specs.Digits.{text_of}
use Rattle.hexadecimal.proofs.text.put_text.Given as goal

abbrev pub invariant-loop-b : goal.invariant-loop-b
invariant-loop-b l =
    (vec_items l.out ≡ vec_items l.initial.out ++ text_of (take l.b-index l.bytes))
    × (vec_len l.out + 2 * (length l.bytes - l.b-index) ≤ vec_capacity l.out)
