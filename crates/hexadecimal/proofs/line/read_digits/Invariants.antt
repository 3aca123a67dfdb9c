use Rattle.std.proofs.Common.{◌≡◌, ◌+◌, ◌*◌, ◌≤◌, length}
use Rattle.hexadecimal.specs.Digits.{bytes_in}
use Rattle.hexadecimal.proofs.Turns.{behind}
use Rattle.hexadecimal.proofs.line.read_digits.Given as goal

abbrev pub invariant-loop-left : goal.invariant-loop-left
invariant-loop-left l = (2 * length l.bytes.items + length l.left ≤ 130) × (bytes_in l.digits ≡ behind l.bytes.items (bytes_in l.left))

abbrev pub decreases-loop-left : goal.decreases-loop-left
decreases-loop-left l = length l.left
