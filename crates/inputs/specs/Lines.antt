-- The lines of an input, and the replies to them.
use Rattle.std.specs.Prelude.{ℕ, ◌+◌, cond, List, [], ◌∷◌, ◌++◌, take, ◌==◌}

-- a byte more in front of the first line
abbrev pub on_first : ℕ → List (List ℕ) → List (List ℕ)
on_first b [] = (b ∷ []) ∷ []
on_first b (line ∷ lines) = (b ∷ line) ∷ lines

-- a line ends at the byte 0A, which the last may lack; behind the last 0A no line begins
abbrev pub all_lines : List ℕ → List (List ℕ)
all_lines [] = []
all_lines (b ∷ bs) = cond (b == 10) ([] ∷ all_lines bs) (on_first b (all_lines bs))

-- the lines that are read
abbrev pub lines_of : List ℕ → List (List ℕ)
lines_of text = take 65535 (all_lines text)

-- an input that comes in parts
abbrev pub whole : List (List ℕ) → List ℕ
whole [] = []
whole (part ∷ parts) = part ++ whole parts

-- the state behind lines, of which the first has the number n + 1
abbrev pub state_after : {S : Type 0} → (S → List ℕ → ℕ → S) → S → ℕ → List (List ℕ) → S
state_after step s n [] = s
state_after step s n (line ∷ lines) = state_after step (step s line (n + 1)) (n + 1) lines

-- the reply to each of them, in their order
abbrev pub replies_to : {S : Type 0} → (S → List ℕ → ℕ → S) → (S → List ℕ → ℕ → List ℕ) → S → ℕ → List (List ℕ) → List (List ℕ)
replies_to step reply s n [] = []
replies_to step reply s n (line ∷ lines) = reply s line (n + 1) ∷ replies_to step reply (step s line (n + 1)) (n + 1) lines

-- the text of replies: each ends at a line end
abbrev pub text_of : List (List ℕ) → List ℕ
text_of [] = []
text_of (reply ∷ replies) = (reply ++ 10 ∷ []) ++ text_of replies
