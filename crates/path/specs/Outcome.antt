-- What refuses a path, and what a path answers and writes.
use Rattle.std.specs.Prelude.{◌≡◌, ℕ, ◌+◌, ◌*◌, List as Seq, length, drop, Some, None, Ok, Err, Option, Result, nat_lt}
use Rattle.fault.specs.declared.Fault.{Fault}
use Rattle.fault.specs.declared.Fault.TheVariants.{NoAllowedDivision, ShortBuffer}
use Rattle.fault.specs.Refusal.{or_else, when}
use Rattle.loss.specs.Table.{Table}
use Rattle.loss.specs.Lines.{line_refusal}
use Rattle.list.specs.declared.List.{List}
use Rattle.list.specs.Entries.{entries, places}
use Rattle.division.specs.declared.mark.Mark.{Mark}
use Rattle.division.specs.Winner.{by_penalty, winner}
use Rattle.envelope.specs.declared.Step.{Step}
use Rattle.path.specs.Cuts.{line_path, NamesEveryCut}

-- what refuses a path before the search is begun, in this order: the line, then 3 (n + 1) numbers and n places for steps
abbrev pub path_refusal : Table → ℕ → ℕ → ℕ → Option Fault
path_refusal t n numbers room = or_else (line_refusal t n) (or_else (when (nat_lt numbers (3 * (n + 1))) ShortBuffer) (when (nat_lt room n) ShortBuffer))

-- the answer: the refusal, else that no division is allowed
abbrev pub path_outcome : Option Fault → Option (Seq ℕ) → Result (Unit {0}) Fault
path_outcome (Some f) w = Err f
path_outcome None None = Err NoAllowedDivision
path_outcome None (Some d) = Ok tt

-- what a path does; `winner (by_penalty 0)` is there exactly where some division is allowed
pub record PathWritten (refusal : Option Fault) (f : ℕ → ℕ → ℕ) (marks : Seq Mark) (m n : ℕ) (r : Result (Unit {0}) Fault) (old new : List Step) (numbers numbers' : Seq ℕ) : Type 0 where
  pub answer : r ≡ path_outcome refusal (winner (by_penalty 0) f marks m n)
  pub listed : r ≡ Ok tt → entries new ≡ line_path f marks m n
  pub names : r ≡ Ok tt → NamesEveryCut f marks m n (entries new)
  pub past : drop (length (entries new)) (places new) ≡ drop (length (entries new)) (places old)
  pub kept : (e : Fault) → r ≡ Err e → new ≡ old
  pub untouched : (e : Fault) → refusal ≡ Some e → numbers' ≡ numbers
