-- What the definitions of lines and replies mean: the theorems that the crate's contracts name.
use Rattle.std.specs.Prelude.{◌≡◌, ℕ, ◌≤◌, List, [], ◌∷◌, ◌++◌, length, ◌≢◌}
use Rattle.std.specs.List.{AllByRecursion}
use Rattle.inputs.specs.Lines.{all_lines, lines_of, replies_to, text_of}

-- it holds no line end
abbrev pub OneLine : List ℕ → Type 0
OneLine line = AllByRecursion (λ b. b ≢ 10) line

-- Lines that end at 0A each are read as they were written, and so is a last one that is not empty and lacks it. At most 65,535 are read.
pub record LinesInWords : Type 0 where
  pub none : lines_of [] ≡ []
  pub ended : (lines : List (List ℕ)) → AllByRecursion OneLine lines → all_lines (text_of lines) ≡ lines
  pub last_open : (lines : List (List ℕ)) (b : ℕ) (line : List ℕ) → AllByRecursion OneLine lines → OneLine (b ∷ line) → all_lines (text_of lines ++ (b ∷ line)) ≡ lines ++ (b ∷ line) ∷ []
  pub few : (input : List ℕ) → length (lines_of input) ≤ 65535
  pub all_read : (input : List ℕ) → length (all_lines input) ≤ 65535 → lines_of input ≡ all_lines input

-- there is one reply for each line
abbrev pub OneEach : {S : Type 0} → (S → List ℕ → ℕ → S) → (S → List ℕ → ℕ → List ℕ) → Type 0
OneEach {S} step reply = (s : S) (n : ℕ) (lines : List (List ℕ)) → length (replies_to step reply s n lines) ≡ length lines
