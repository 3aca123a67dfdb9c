-- What refuses a cut, and what a cut answers and does, from the refusal and the winner.
use Rattle.std.specs.Prelude.{◌≡◌, ℕ, ◌+◌, ◌-◌, ◌*◌, ◌^◌, ◌≤◌, List as Seq, ◌++◌, length, drop, IfOk, Some, None, Ok, Err, Option, Result, nat_le, nat_lt}
use Rattle.list.specs.declared.List.{List}
use Rattle.list.specs.Entries.{entries, places}
use Rattle.fault.specs.declared.Fault.{Fault}
use Rattle.fault.specs.declared.Fault.TheVariants.{BadPenalty, BadCount, NoAllowedDivision, ShortBuffer}
use Rattle.fault.specs.Refusal.{or_else, when}
use Rattle.loss.specs.Table.{Table}
use Rattle.loss.specs.Lines.{line_refusal}

-- A search wants 3 (n + 1) numbers, so many rows of n + 1 starts, and n - 1 places for boundaries.
abbrev pub room_refusal : ℕ → ℕ → ℕ → ℕ → ℕ → Option Fault
room_refusal n rows numbers trace places =
    or_else (when (nat_lt numbers (3 * (n + 1))) ShortBuffer) (or_else (when (nat_lt trace (rows * (n + 1))) ShortBuffer) (when (nat_lt places (n - 1)) ShortBuffer))

-- what refuses a cut before the search is begun, in this order
abbrev pub penalty_refusal : Table → ℕ → ℕ → ℕ → ℕ → ℕ → Option Fault
penalty_refusal t n penalty numbers trace places = or_else (when (nat_lt (2 ^ 49) penalty) BadPenalty) (or_else (line_refusal t n) (room_refusal n 1 numbers trace places))

abbrev pub count_refusal : Table → ℕ → ℕ → ℕ → ℕ → ℕ → Option Fault
count_refusal t n count numbers trace places = or_else (when (nat_le n count) BadCount) (or_else (line_refusal t n) (room_refusal n (count + 1) numbers trace places))

-- the answer: the refusal, else that no division is allowed, else the winner's total
abbrev pub outcome : Option Fault → Option (Seq ℕ) → (Seq ℕ → ℕ) → Result ℕ Fault
outcome (Some f) w cost = Err f
outcome None None cost = Err NoAllowedDivision
outcome None (Some d) cost = Ok (cost d)

-- the entries of the list afterwards: the winner's boundaries, or as they stood
abbrev pub entries_after : Option Fault → Option (Seq ℕ) → Seq ℕ → Seq ℕ
entries_after (Some f) w old = old
entries_after None None old = old
entries_after None (Some d) old = d

-- its places afterwards: past the entries as they stood
abbrev pub places_after : Option Fault → Option (Seq ℕ) → Seq ℕ → Seq ℕ
places_after (Some f) w old = old
places_after None None old = old
places_after None (Some d) old = d ++ drop (length d) old

-- what a cut does: its answer, a total of 2^58 at most, the list, and both buffers as they stood where it was refused before the search
pub record Cut (refusal : Option Fault) (winner : Option (Seq ℕ)) (cost : Seq ℕ → ℕ) (r : Result ℕ Fault) (old new : List ℕ) (numbers numbers' trace trace' : Seq ℕ) : Type 0 where
  pub answer : r ≡ outcome refusal winner cost
  pub bounded : IfOk r (λ t. t ≤ 2 ^ 58)
  pub listed : entries new ≡ entries_after refusal winner (entries old)
  pub past : places new ≡ places_after refusal winner (places old)
  pub untouched : (f : Fault) → refusal ≡ Some f → (numbers' ≡ numbers) × (trace' ≡ trace)
