-- Words with one space between neighbours, and what is read of them.
use Rattle.std.proofs.Common.{◌≡◌, ℕ, true, false, List, [], ◌∷◌, ◌++◌, refl, ap, ◌∙◌, ap₂, arith}
use Rattle.std.specs.List.{AllByRecursion}
use Rattle.command.specs.Words.{blank, word, words_after, words}
use Rattle.command.specs.Theorems.{spaced, WordsStand}

-- no byte is a blank
abbrev Solid : List ℕ → Type 0
Solid w = AllByRecursion (λ b. blank b ≡ false) w

word_alone : (w : List ℕ) → Solid w → word w ≡ w
word_alone [] all = refl
word_alone (b ∷ w) all = let e = all.0 in simp e (ap (λ (v : List ℕ). b ∷ v) (word_alone w all.1))

none_behind : (w : List ℕ) → Solid w → words_after true w ≡ []
none_behind [] all = refl
none_behind (b ∷ w) all = let e = all.0 in simp e (none_behind w all.1)

word_front : (w text : List ℕ) → Solid w → word (w ++ 32 ∷ text) ≡ w
word_front [] text all = refl
word_front (b ∷ w) text all = let e = all.0 in simp e (ap (λ (v : List ℕ). b ∷ v) (word_front w text all.1))

words_behind : (w text : List ℕ) → Solid w → words_after true (w ++ 32 ∷ text) ≡ words text
words_behind [] text all = refl
words_behind (b ∷ w) text all = let e = all.0 in simp e (words_behind w text all.1)

pub words_stand : WordsStand
words_stand [] all = refl
words_stand ([] ∷ []) all = absurd (omega (arith, all.0.0))
words_stand ((b ∷ w) ∷ []) all = let e = all.0.1.0 in simp e (ap₂ (λ (v : List ℕ) (ws : List (List ℕ)). (b ∷ v) ∷ ws) (word_alone w all.0.1.1) (none_behind w all.0.1.1))
words_stand ([] ∷ v ∷ ws) all = absurd (omega (arith, all.0.0))
words_stand ((b ∷ w) ∷ v ∷ ws) all =
    let e = all.0.1.0 in
    simp e (ap₂ (λ (x : List ℕ) (xs : List (List ℕ)). (b ∷ x) ∷ xs) (word_front w (spaced (v ∷ ws)) all.0.1.1)
    (words_behind w (spaced (v ∷ ws)) all.0.1.1 ∙ words_stand (v ∷ ws) all.1))
