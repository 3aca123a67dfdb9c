-- Numbers that are read one by one.
use Rattle.std.proofs.Common.{List, ◌++◌, Some, None, Option}

-- what is behind those read so far
abbrev pub after : {X : Type 0} → List X → Option (List X) → Option (List X)
after xs None = None
after xs (Some more) = Some (xs ++ more)
