-- What a reply answers, its bytes and its text.
use Rattle.std.specs.Prelude.{ℕ, List, [], ◌∷◌, ◌++◌, length}
use Rattle.std.specs.List.{flat_map}
use Rattle.fault.specs.declared.Fault.{Fault}
use Rattle.fault.specs.Number.{number}
use Rattle.envelope.specs.declared.Step.{Step}
use Rattle.hexadecimal.specs.Digits.{text_of}
use Rattle.frames.specs.Numbers.{two_bytes, eight_bytes}
use Rattle.replies.specs.declared.Reply.{Reply}
use Rattle.replies.specs.declared.Reply.TheVariants.{Readings, Open, Mark, Unmark, Shortest, CutByPenalty, CutByCount, Path, Reopen, Refusal}

-- what a reply answers, with a list for each slice
pub data Answered : Type 0 where
  readings : ℕ → Answered
  opening : ℕ → Answered
  mark : ℕ → Answered
  unmark : ℕ → Answered
  shortest : ℕ → Answered
  cut_by_penalty : ℕ → List ℕ → Answered
  cut_by_count : ℕ → List ℕ → Answered
  path : List Step → Answered
  reopen : Answered
  refusal : Fault → ℕ → Answered

abbrev pub answered : Reply → Answered
answered (Readings held) = readings held
answered (Open n) = opening n
answered (Mark standing) = mark standing
answered (Unmark standing) = unmark standing
answered (Shortest m) = shortest m
answered (CutByPenalty total boundaries) = cut_by_penalty total boundaries.now
answered (CutByCount total boundaries) = cut_by_count total boundaries.now
answered (Path steps) = path steps.now
answered Reopen = reopen
answered (Refusal fault line) = refusal fault line

-- the total, the number of boundaries, and each of them
abbrev pub cut_bytes : ℕ → List ℕ → List ℕ
cut_bytes total boundaries = eight_bytes total ++ (two_bytes (length boundaries) ++ flat_map two_bytes boundaries)

-- a step's penalty, count and loss
abbrev pub step_bytes : Step → List ℕ
step_bytes s = eight_bytes s.penalty ++ (two_bytes s.count ++ eight_bytes s.loss)

-- the number of steps, and each of them
abbrev pub path_bytes : List Step → List ℕ
path_bytes steps = two_bytes (length steps) ++ flat_map step_bytes steps

-- the refusal's number, and that of the input line
abbrev pub refusal_bytes : Fault → ℕ → List ℕ
refusal_bytes fault line = 0xEE ∷ number fault ∷ two_bytes line

abbrev pub reply_bytes : Answered → List ℕ
reply_bytes (readings held) = 0x10 ∷ two_bytes held
reply_bytes (opening n) = 0x11 ∷ two_bytes n
reply_bytes (mark standing) = 0x20 ∷ two_bytes standing
reply_bytes (unmark standing) = 0x21 ∷ two_bytes standing
reply_bytes (shortest m) = 0x22 ∷ two_bytes m
reply_bytes (cut_by_penalty total boundaries) = 0x30 ∷ cut_bytes total boundaries
reply_bytes (cut_by_count total boundaries) = 0x31 ∷ cut_bytes total boundaries
reply_bytes (path steps) = 0x32 ∷ path_bytes steps
reply_bytes reopen = 0x40 ∷ []
reply_bytes (refusal fault line) = refusal_bytes fault line

abbrev pub reply_text : Answered → List ℕ
reply_text a = text_of (reply_bytes a)
