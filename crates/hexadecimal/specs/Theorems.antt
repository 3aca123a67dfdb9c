-- What the definitions mean: the theorems that the crate's contracts name.
use Rattle.std.specs.Prelude.{◌≡◌, ℕ, ◌%◌, ◌<◌, ◌≤◌, ◌⊎◌, List, length, take, Some, Ok, Err}
use Rattle.std.specs.List.{AllByRecursion}
use Rattle.fault.specs.declared.Fault.TheVariants.{MalformedLine}
use Rattle.hexadecimal.specs.Digits.{bytes_in, text_of}
use Rattle.hexadecimal.specs.Line.{line_bytes}

-- each number fits a byte
abbrev pub Bytes : List ℕ → Type 0
Bytes bs = AllByRecursion (λ b. b < 256) bs

-- bytes that are written are read back
abbrev pub ReadBack : Type 0
ReadBack = (bs : List ℕ) → Bytes bs → bytes_in (text_of bs) ≡ Some bs

-- digits that are read are those that write their bytes, and these fit a byte
abbrev pub WrittenBack : Type 0
WrittenBack = (digits bs : List ℕ) → bytes_in digits ≡ Some bs → (text_of bs ≡ digits) × Bytes bs

-- 1 to 65 bytes make a line
abbrev pub LineReadBack : Type 0
LineReadBack = (bs : List ℕ) → Bytes bs → 1 ≤ length bs → length bs ≤ 65 → line_bytes (text_of bs) ≡ Ok bs

-- '0' to '9' or 'A' to 'F'
abbrev pub Digit : ℕ → Type 0
Digit c = ((48 ≤ c) × (c ≤ 57)) ⊎ ((65 ≤ c) × (c ≤ 70))

-- 1 to 130 digits, in pairs
pub record WellFormed (line : List ℕ) : Type 0 where
  pub some : 1 ≤ length line
  pub few : length line ≤ 130
  pub paired : length line % 2 ≡ 0
  pub digits : AllByRecursion Digit line

-- a line has bytes where it is well formed, and is refused as malformed where it is not
abbrev pub ReadWhenWellFormed : Type 0
ReadWhenWellFormed = (line : List ℕ) → WellFormed line → (bs : List ℕ) × (line_bytes line ≡ Ok bs)

abbrev pub RefusedWhenNot : Type 0
RefusedWhenNot = (line : List ℕ) → (WellFormed line → ⊥) → line_bytes line ≡ Err MalformedLine

-- what stands past the first 131 bytes of a line does not matter
abbrev pub FrontSuffices : Type 0
FrontSuffices = (line : List ℕ) → line_bytes (take 131 line) ≡ line_bytes line
