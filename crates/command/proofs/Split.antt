-- The first word of a text and the words behind it.
use Rattle.std.proofs.Common.{◌≡◌, ℕ, ◌+◌, ◌-◌, ◌<◌, ◌≤◌, Bool, true, false, cond, not, ltb, List, [], ◌∷◌, ◌++◌, length, take, drop, Some, None, Option, sym, refl, ap, ◌∙◌, inl, inr, one-add, arith}
use Rattle.std.specs.List.{position, position_or_len}
use Rattle.std.proofs.lemmas.List.{length-drop, length-append, take-append-drop, take_rest, drop_all}
use Rattle.std.proofs.lemmas.Bool.{cases_Bool, cases_lt, lt-ltb, le-ltb}
use Rattle.std.specs.Option.{unwrap_or}
use Rattle.std.proofs.lemmas.List.Sums.{prefix_len-le-length}
use Rattle.command.specs.Words.{blank, word, words_after, words}

pub or_all : {X : Type 0} (p : X → Bool) (xs : List X) (at : Option ℕ) → at ≡ position p xs → unwrap_or at (length xs) ≡ position_or_len p xs
or_all p xs at e = elim (cases_lt (position_or_len p xs) (length xs)) [
  | inl l ↦ (let t = lt-ltb (position_or_len p xs) (length xs) l in rw e (simp t))
  | inr l ↦ (let t = le-ltb (position_or_len p xs) (length xs) l in rw e (simp t (omega (arith, prefix_len-le-length (λ x. not (p x)) xs))))
]

-- a byte that is looked for is found within the text, or every byte is passed over
pub found : (i at size : ℕ) → Some i ≡ cond (ltb at size) (Some at) None → (i ≡ at) × (at < size)
found i at size e = elim (cases_lt at size) [
  | inl l ↦ (let t = lt-ltb at size l in (cc (simp t at e), l))
  | inr l ↦ (let t = le-ltb at size l in let z : ◌≡◌ {A = ℕ} 0 1 = cc (simp t at e) in absurd (omega arith))
]

pub passed_over : (at size : ℕ) → None ≡ cond (ltb at size) (Some at) None → size ≤ at
passed_over at size e = elim (cases_lt at size) [
  | inl l ↦ (let t = lt-ltb at size l in let z : ◌≡◌ {A = ℕ} 0 1 = cc (simp t at e) in absurd (omega arith))
  | inr l ↦ l
]

-- a text without the blanks in front of it
abbrev skipped : List ℕ → List ℕ
skipped [] = []
skipped (b ∷ text) = cond (blank b) (skipped text) (b ∷ text)

skipped_is : (text : List ℕ) → drop (position_or_len (λ b. not (blank b)) text) text ≡ skipped text
skipped_is [] = refl
skipped_is (b ∷ text) = elim (cases_Bool (blank b)) [ inl e ↦ simp (e, one-add) (skipped_is text) | inr e ↦ simp e ]

words_skipped : (text : List ℕ) → words text ≡ words (skipped text)
words_skipped [] = refl
words_skipped (b ∷ text) = elim (cases_Bool (blank b)) [ inl e ↦ simp e (words_skipped text) | inr e ↦ simp e ]

-- a text is empty, or begins with a word
abbrev Begins : List ℕ → Type 0
Begins [] = Unit {0}
Begins (b ∷ text) = blank b ≡ false

skipped_begins : (text : List ℕ) → Begins (skipped text)
skipped_begins [] = tt
skipped_begins (b ∷ text) = go (blank b) refl (skipped_begins text)
  where
    go : (t : Bool) → blank b ≡ t → Begins (skipped text) → Begins (cond t (skipped text) (b ∷ text))
    go true e more = more
    go false e more = e

word_is : (text : List ℕ) → take (position_or_len blank text) text ≡ word text
word_is [] = refl
word_is (b ∷ text) = elim (cases_Bool (blank b)) [ inl e ↦ simp e | inr e ↦ simp (e, one-add) (ap (λ (w : List ℕ). b ∷ w) (word_is text)) ]

behind_is : (text : List ℕ) → words_after true text ≡ words (drop (position_or_len blank text) text)
behind_is [] = refl
behind_is (b ∷ text) = elim (cases_Bool (blank b)) [ inl e ↦ simp e | inr e ↦ simp (e, one-add) (behind_is text) ]

first_is : (text : List ℕ) → Begins text → 0 < length text → words text ≡ word text ∷ words (drop (position_or_len blank text) text)
first_is [] begins some = absurd (omega arith)
first_is (b ∷ text) e some = simp (e, one-add) (ap (λ (ws : List (List ℕ)). (b ∷ word text) ∷ ws) (behind_is text))

word_some : (text : List ℕ) → Begins text → 0 < length text → 0 < length (word text)
word_some [] begins some = absurd (omega arith)
word_some (b ∷ text) e some = simp e (omega arith)

pub none_left : (text : List ℕ) → None ≡ position (λ b. not (blank b)) text → words text ≡ []
none_left text e =
    let over = passed_over (position_or_len (λ b. not (blank b)) text) (length text) e in
    words_skipped text ∙ ap words (sym (skipped_is text) ∙ drop_all (position_or_len (λ b. not (blank b)) text) text over)

-- the text behind its blanks, cut behind its first word
module _ (text left : List ℕ) (n : ℕ) (n-is : Some n ≡ position (λ b. not (blank b)) text) (left-is : left ≡ take (length text - n) (drop n text)) where
  left_dropped : left ≡ drop n text
  left_dropped = left-is ∙ take_rest text n

  left_skipped : left ≡ skipped text
  left_skipped = left_dropped ∙ ap (λ k. drop k text) (found n (position_or_len (λ b. not (blank b)) text) (length text) n-is).0 ∙ skipped_is text

  shorter : length left + n ≡ length text
  shorter = let f = found n (position_or_len (λ b. not (blank b)) text) (length text) n-is in omega (arith, f.0, f.1, ap length left_dropped, length-drop n text)

  some : 0 < length (skipped text)
  some = let f = found n (position_or_len (λ b. not (blank b)) text) (length text) n-is in omega (arith, ap length left_skipped, shorter, f.0, f.1)

  module _ (m : ℕ) (at : Option ℕ) (at-is : at ≡ position blank left) (m-is : m ≡ unwrap_or at (length left)) where
    m_first : m ≡ position_or_len blank left
    m_first = m-is ∙ or_all blank left at at-is

    pub word_within : m ≤ length left
    word_within = omega (arith, m_first, prefix_len-le-length (λ b. not (blank b)) left)

    pub first_left : (first rest : List ℕ) → first ≡ take m left → rest ≡ drop m left → (words text ≡ first ∷ words rest) × (length rest < length text)
    first_left first rest first-is rest-is = (
      words_skipped text ∙ first_is (skipped text) (skipped_begins text) some
          ∙ rw (first-is, rest-is, m_first, left_skipped, word_is (skipped text)) refl,
      omega (arith, ap length front, word_some (skipped text) (skipped_begins text) some, ap length whole, length-append first rest, shorter),
    )
      where
        front : first ≡ word (skipped text)
        front = first-is ∙ ap (λ k. take k left) m_first ∙ word_is left ∙ ap word left_skipped

        whole : first ++ rest ≡ left
        whole = rw (first-is, rest-is) (take-append-drop m left)
