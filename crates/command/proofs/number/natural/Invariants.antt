use Rattle.std.proofs.Common.{◌≡◌, ◌-◌, ◌^◌, ◌<◌, min, drop}
use Rattle.std.specs.Option.{option_map}
use Rattle.command.specs.Numbers.{decimal_after, natural}
use Rattle.command.proofs.number.natural.Given as goal

abbrev pub invariant-loop-b : goal.invariant-loop-b
invariant-loop-b l = (natural 64 l.word ≡ option_map (λ n. min n (2 ^ 64 - 1)) (decimal_after l.n (drop l.b-index l.word))) × (l.n < 2 ^ 64)
