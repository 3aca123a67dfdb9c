-- Blanks, and the words between them.
use Rattle.std.specs.Prelude.{ℕ, Bool, true, false, cond, ◌&&◌, ◌||◌, List, [], ◌∷◌, ◌==◌, nat_le}
use Rattle.std.specs.List.{list_all}

-- a space, a tab or a carriage return
abbrev pub blank : ℕ → Bool
blank b = b == 32 || (b == 9 || b == 13)

-- a blank or a printable character
abbrev pub legible : ℕ → Bool
legible b = blank b || (nat_le 33 b && nat_le b 126)

abbrev pub all_legible : List ℕ → Bool
all_legible text = list_all legible text

-- what stands before the first blank
abbrev pub word : List ℕ → List ℕ
word [] = []
word (b ∷ text) = cond (blank b) [] (b ∷ word text)

-- the words that begin in a text: each at a byte that is no blank and does not follow one that is none.
-- `inside` says that the text follows such a byte.
abbrev pub words_after : Bool → List ℕ → List (List ℕ)
words_after inside [] = []
words_after inside (b ∷ text) = cond (blank b) (words_after false text) (cond inside (words_after true text) (word (b ∷ text) ∷ words_after true text))

abbrev pub words : List ℕ → List (List ℕ)
words text = words_after false text
