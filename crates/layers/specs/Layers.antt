-- What the layers stand for: a loss multiplied by a weight, and two losses added.
use Rattle.std.specs.Prelude.{ℕ, ◌+◌, ◌*◌, ◌^◌, min, cond, nat_lt}
use Rattle.loss.specs.Table.{Table}

-- the ceiling c, or too heavy where it would pass 2^40
abbrev pub capped : ℕ → ℕ
capped c = cond (nat_lt (2 ^ 40) c) (2 ^ 40 + 1) c

-- too heavy where the loss below is, whatever the weight
abbrev pub weighted : ℕ → Table → Table
weighted w t = record {
  length = t.length;
  ceiling = cond (nat_lt (2 ^ 40) t.ceiling) (2 ^ 40 + 1) (capped (w * t.ceiling));
  loss = λ a b. w * t.loss a b;
}

-- too heavy where one of the two is
abbrev pub paired : Table → Table → Table
paired p s = record {
  length = min p.length s.length;
  ceiling = cond (nat_lt (2 ^ 40) p.ceiling) (2 ^ 40 + 1) (cond (nat_lt (2 ^ 40) s.ceiling) (2 ^ 40 + 1) (capped (p.ceiling + s.ceiling)));
  loss = λ a b. p.loss a b + s.loss a b;
}
