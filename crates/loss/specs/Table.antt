-- What a loss stands for, the rules that every loss keeps, and what it answers when it is asked for a stretch.
use Rattle.std.specs.Prelude.{ℕ, ◌+◌, ◌-◌, ◌*◌, ◌^◌, ◌<◌, ◌≤◌, cond, ◌&&◌, Ok, Err, Result, nat_le, nat_lt}
use Rattle.fault.specs.declared.Fault.{Fault}
use Rattle.fault.specs.declared.Fault.TheVariants.{BadStretch, TooHeavy}

-- a length, a ceiling, and the loss of each stretch (a, b), which holds the readings a + 1 to b
pub record Table : Type 0 where
  pub length : ℕ
  pub ceiling : ℕ
  pub loss : ℕ → ℕ → ℕ

-- A ceiling of 2^40 + 1 means too heavy. Of a loss that is not, no stretch loses more than the ceiling for each of its readings.
pub record Sound (t : Table) : Type 0 where
  pub short : t.length ≤ 65535
  pub light : t.ceiling ≤ 2 ^ 40 + 1
  pub under : (a b : ℕ) → t.ceiling ≤ 2 ^ 40 → a < b → b ≤ t.length → t.loss a b ≤ t.ceiling * (b - a)

-- too heavy first, then outside, then the number
abbrev pub answer : Table → ℕ → ℕ → Result ℕ Fault
answer t a b = cond (nat_lt (2 ^ 40) t.ceiling) (Err TooHeavy) (cond (nat_lt a b && nat_le b t.length) (Ok (t.loss a b)) (Err BadStretch))
