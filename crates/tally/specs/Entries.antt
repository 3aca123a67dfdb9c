-- The two tallies, and how a row of numbers holds them.
use Rattle.std.specs.Prelude.{ℕ, ◌+◌, ◌*◌, Bool, true, false, cond, List, Some, None, Option, ◌==◌, nat_lt, slice_index}

-- entry i of a row of losses; the largest number says that there is none
abbrev pub loss_held : List ℕ → ℕ → Option ℕ
loss_held xs i = cond (slice_index xs i == 18446744073709551615) None (Some (slice_index xs i))

abbrev pub loss_added : {M : Type 0} → M → ℕ → ℕ → ℕ → ℕ
loss_added m v a l = v + l

-- entry i of a row of totals with their numbers of boundaries
abbrev pub pair_held : List ℕ → ℕ → Option (ℕ × ℕ)
pair_held xs i = cond (slice_index xs (2 * i) == 18446744073709551615) None (Some (slice_index xs (2 * i), slice_index xs (2 * i + 1)))

-- the smaller total, then the fewer boundaries
abbrev pub pair_below : ℕ × ℕ → ℕ × ℕ → Bool
pair_below p q = cond (nat_lt p.0 q.0) true (cond (p.0 == q.0) (nat_lt p.1 q.1) false)

-- every start but 0 is a boundary, which costs the penalty
abbrev pub pair_added : ℕ → ℕ × ℕ → ℕ → ℕ → ℕ × ℕ
pair_added penalty p a l = cond (a == 0) (p.0 + l, p.1) (p.0 + l + penalty, p.1 + 1)
