-- What the definitions mean: the theorems that the crate's contracts name.
use Rattle.std.specs.Prelude.{◌≡◌, ℕ, ◌^◌, ◌<◌, List, length}
use Rattle.std.specs.List.{AllByRecursion}
use Rattle.envelope.specs.declared.Step.{Step}
use Rattle.replies.specs.Answered.{Answered, readings, opening, mark, unmark, shortest, cut_by_penalty, cut_by_count, path, reopen, refusal, reply_text}

-- its numbers fit their bytes, and there are fewer than 65,536 boundaries or steps
abbrev pub StepInRange : Step → Type 0
StepInRange s = (s.penalty < 2 ^ 64) × (s.count < 2 ^ 16) × (s.loss < 2 ^ 64)

abbrev pub CutInRange : ℕ → List ℕ → Type 0
CutInRange total boundaries = (total < 2 ^ 64) × (length boundaries < 2 ^ 16) × AllByRecursion (λ gap. gap < 2 ^ 16) boundaries

abbrev pub InRange : Answered → Type 0
InRange (readings held) = held < 2 ^ 16
InRange (opening n) = n < 2 ^ 16
InRange (mark standing) = standing < 2 ^ 16
InRange (unmark standing) = standing < 2 ^ 16
InRange (shortest m) = m < 2 ^ 16
InRange (cut_by_penalty total boundaries) = CutInRange total boundaries
InRange (cut_by_count total boundaries) = CutInRange total boundaries
InRange (path steps) = (length steps < 2 ^ 16) × AllByRecursion StepInRange steps
InRange reopen = Unit {0}
InRange (refusal fault line) = line < 2 ^ 16

-- different replies have different texts
abbrev pub RepliesDiffer : Type 0
RepliesDiffer = (a b : Answered) → InRange a → InRange b → reply_text a ≡ reply_text b → a ≡ b
