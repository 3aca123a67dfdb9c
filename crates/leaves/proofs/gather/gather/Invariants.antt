use Rattle.std.proofs.Common.{◌≡◌, ◌++◌, take}
use Rattle.leaves.proofs.gather.gather.Given as goal

abbrev pub invariant-loop-x : goal.invariant-loop-x
invariant-loop-x g l = g.L.Leaf.readings l.leaf ≡ g.L.Leaf.readings l.initial.leaf ++ take l.x-index l.xs
