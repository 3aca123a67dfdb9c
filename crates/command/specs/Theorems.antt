-- What the definitions mean: the theorems that the crate's contracts name.
use Rattle.std.specs.Prelude.{◌≡◌, ℕ, ◌^◌, ◌<◌, ◌≤◌, false, List, [], ◌∷◌, ◌++◌, map, length, Some, Ok, codes, decimal as digits_of}
use Rattle.std.specs.Int.Signed.{mag}
use Rattle.std.specs.Fmt.{signed_decimal as signed-digits-of}
use Rattle.std.specs.List.{AllByRecursion}
use Rattle.leaves.specs.declared.kind.LossKind.{LossKind}
use Rattle.leaves.specs.declared.kind.LossKind.TheVariants.{Squares, Distances, Votes}
use Rattle.command.specs.Words.{blank, words}
use Rattle.command.specs.Numbers.{decimal}
use Rattle.command.specs.Said.{Said, nothing, help, loss, readings, mark, unmark, shortest, price, best_by_penalty, best_by_count, path}
use Rattle.command.specs.Line.{read_line}

-- words with one space between neighbours
abbrev pub spaced : List (List ℕ) → List ℕ
spaced [] = []
spaced (w ∷ []) = w
spaced (w ∷ v ∷ ws) = w ++ 32 ∷ spaced (v ∷ ws)

-- a text is cut into the words that it was made of, where each has a byte and no blank
abbrev pub WordsStand : Type 0
WordsStand = (ws : List (List ℕ)) → AllByRecursion (λ w. (0 < length w) × AllByRecursion (λ b. blank b ≡ false) w) ws → words (spaced ws) ≡ ws

-- the digits that are printed of a number are read as that number
abbrev pub NumbersStand : Type 0
NumbersStand = (n : ℕ) → n < 2 ^ 64 → decimal (digits_of n) ≡ Some n

abbrev pub loss_name : LossKind → List ℕ
loss_name Squares = codes "squares"
loss_name Distances = codes "distances"
loss_name Votes = codes "votes"

-- the words that write a command
abbrev pub written : Said → List (List ℕ)
written nothing = []
written help = codes "help" ∷ []
written (loss kind) = codes "loss" ∷ loss_name kind ∷ []
written (readings all) = codes "readings" ∷ map signed-digits-of all
written (mark m) = codes "mark" ∷ digits_of m.first ∷ digits_of m.last ∷ digits_of m.boundaries ∷ []
written (unmark first) = codes "unmark" ∷ digits_of first ∷ []
written (shortest m) = codes "shortest" ∷ digits_of m ∷ []
written (price penalty gaps) = codes "price" ∷ digits_of penalty ∷ codes "at" ∷ map digits_of gaps
written (best_by_penalty penalty) = codes "best" ∷ digits_of penalty ∷ []
written (best_by_count count) = codes "best" ∷ codes "count" ∷ digits_of count ∷ []
written path = codes "path" ∷ []

-- its numbers fit their types, and there are readings
abbrev pub InRange : Said → Type 0
InRange nothing = Unit {0}
InRange help = Unit {0}
InRange (loss kind) = Unit {0}
InRange (readings all) = (0 < length all) × AllByRecursion (λ z. mag z < 2 ^ 31) all
InRange (mark m) = (m.first < 2 ^ 16) × (m.last < 2 ^ 16) × (m.boundaries < 2 ^ 8)
InRange (unmark first) = first < 2 ^ 16
InRange (shortest m) = m < 2 ^ 16
InRange (price penalty gaps) = (penalty < 2 ^ 64) × AllByRecursion (λ gap. gap < 2 ^ 16) gaps
InRange (best_by_penalty penalty) = penalty < 2 ^ 64
InRange (best_by_count count) = count < 2 ^ 16
InRange path = Unit {0}

-- every command can be written, and is read as it was written
abbrev pub CommandsStand : Type 0
CommandsStand = (s : Said) → InRange s → length (spaced (written s)) ≤ 4096 → read_line (spaced (written s)) ≡ Ok s
