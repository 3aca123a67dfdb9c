-- What a line says, and what the code answers to it.
use Rattle.std.specs.Prelude.{◌≡◌, ℕ, List, ℤ, Ok, Err, vec_items, Result}
use Rattle.fault.specs.declared.Fault.{Fault}
use Rattle.fault.specs.declared.Failure.{Failure}
use Rattle.fault.specs.declared.Failure.TheVariants.{Refused, OutOfMemory}
use Rattle.division.specs.declared.mark.Mark.{Mark as Marked}
use Rattle.leaves.specs.declared.kind.LossKind.{LossKind}
use Rattle.command.specs.declared.Command.{Command}
use Rattle.command.specs.declared.Command.TheVariants.{Nothing, Help, Loss, Readings, Mark, Unmark, Shortest, Price, BestByPenalty, BestByCount, Path}

pub data Said : Type 0 where
  nothing : Said
  help : Said
  loss : LossKind → Said
  readings : List ℤ → Said
  mark : Marked → Said
  unmark : ℕ → Said
  shortest : ℕ → Said
  price : ℕ → List ℕ → Said
  best_by_penalty : ℕ → Said
  best_by_count : ℕ → Said
  path : Said

-- what a command says, with a list for each vector
abbrev pub said : Command → Said
said Nothing = nothing
said Help = help
said (Loss kind) = loss kind
said (Readings all) = readings (vec_items all)
said (Mark m) = mark m
said (Unmark first) = unmark first
said (Shortest m) = shortest m
said (Price penalty gaps) = price penalty (vec_items gaps)
said (BestByPenalty penalty) = best_by_penalty penalty
said (BestByCount count) = best_by_count count
said Path = path

-- the code answers what is due: the value, or the refusal, unless memory is wanting
abbrev pub Answers : {T X : Type 0} → (T → X) → Result X Fault → Result T Failure → Type 0
Answers says due (Ok t) = due ≡ Ok (says t)
Answers says due (Err (Refused f)) = due ≡ Err f
Answers says due (Err OutOfMemory) = Unit {0}

-- the same of code that allocates nothing
abbrev pub Says : {T X : Type 0} → (T → X) → Result X Fault → Result T Fault → Type 0
Says says due (Ok t) = due ≡ Ok (says t)
Says says due (Err f) = due ≡ Err f
