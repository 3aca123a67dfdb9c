-- Which of two divisions is the later: their lengths decide, and where these are the same, the last place where they differ.
use Rattle.std.proofs.Common.{◌≡◌, ℕ, ◌<◌, ◌⊎◌, inl, inr, Bool, true, false, cond, not, ◌&&◌, ◌||◌, eqb, ltb, List, [], ◌∷◌, ◌++◌, length, reverse, Some, None, Option, refl, ap, arith}
use Rattle.std.specs.List.{find, zip}
use Rattle.std.proofs.lemmas.List.{reverse-append, length-reverse}
use Rattle.std.proofs.lemmas.List.Folds.{find-append}
use Rattle.std.proofs.lemmas.Bool.Decides.{nat_tests, same_from_decides, Decides-ltb, Decides-like}
use Rattle.std.specs.Option.{option_or}
use Rattle.division.specs.Order.{same, later, LaterWhereTheyLastDiffer}
use Rattle.division.proofs.Order.{later_in_words}
use Rattle.division.proofs.Tested.{decides_later}

abbrev differ : ℕ × ℕ → Bool
differ p = not (eqb p.0 p.1)

-- the first of the two is the greater
abbrev pub greater : Option (ℕ × ℕ) → Bool
greater None = false
greater (Some p) = ltb p.1 p.0

abbrev nowhere : Option (ℕ × ℕ) → Bool
nowhere None = true
nowhere (Some p) = false

abbrev found : List ℕ → List ℕ → Option (ℕ × ℕ)
found d e = find differ (zip (reverse d) (reverse e))

zip_more : (xs ys : List ℕ) (x y : ℕ) → length xs ≡ length ys → zip (xs ++ x ∷ []) (ys ++ y ∷ []) ≡ zip xs ys ++ (x, y) ∷ []
zip_more [] [] x y h = refl
zip_more [] (b ∷ ys) x y h = absurd (omega arith)
zip_more (a ∷ xs) [] x y h = absurd (omega arith)
zip_more (a ∷ xs) (b ∷ ys) x y h = ap (λ (t : List (ℕ × ℕ)). (a, b) ∷ t) (zip_more xs ys x y (omega arith))

found_more : (x y : ℕ) (xs ys : List ℕ) → length xs ≡ length ys → found (x ∷ xs) (y ∷ ys) ≡ option_or (found xs ys) (find differ ((x, y) ∷ []))
found_more x y xs ys h =
    let same_length : length (reverse xs) ≡ length (reverse ys) = omega (arith, length-reverse xs, length-reverse ys) in
    rw (reverse-append (x ∷ []) xs, reverse-append (y ∷ []) ys, zip_more (reverse xs) (reverse ys) x y same_length)
    (find-append differ (zip (reverse xs) (reverse ys)) ((x, y) ∷ []))

front : (x y : ℕ) (t : Bool) → eqb x y ≡ t → (greater (cond (not t) (Some (x, y)) None) ≡ ltb y x) × (nowhere (cond (not t) (Some (x, y)) None) ≡ (t && true))
front x y true h = (grind (arith, nat_tests), refl)
front x y false h = (refl, refl)

settled : (l : Bool) → l ≡ (l || false)
settled true = refl
settled false = refl

settled_none : (t : Bool) → false ≡ (t && false)
settled_none true = refl
settled_none false = refl

onward : (x y : ℕ) (r : Option (ℕ × ℕ)) (l s : Bool) → greater r ≡ l → nowhere r ≡ s →
    (greater (option_or r (find differ ((x, y) ∷ []))) ≡ (l || (s && ltb y x))) × (nowhere (option_or r (find differ ((x, y) ∷ []))) ≡ (eqb x y && s))
onward x y None l s h k = rw (← h, ← k) (front x y (eqb x y) refl)
onward x y (Some p) l s h k = rw (← h, ← k) (settled (ltb p.1 p.0), settled_none (eqb x y))

decided : (d e : List ℕ) → length d ≡ length e → (greater (found d e) ≡ later d e) × (nowhere (found d e) ≡ same d e)
decided [] [] h = (refl, refl)
decided [] (y ∷ ys) h = absurd (omega arith)
decided (x ∷ xs) [] h = absurd (omega arith)
decided (x ∷ xs) (y ∷ ys) h =
    let rest = decided xs ys (omega arith) in
    rw (found_more x y xs ys (omega arith)) (onward x y (found xs ys) (later xs ys) (same xs ys) rest.0 rest.1)

pub later_by_last_difference : (d e : List ℕ) → length d ≡ length e → greater (found d e) ≡ later d e
later_by_last_difference d e h = (decided d e h).0

-- of two lists of different lengths, the shorter comes first
pub later_by_length : (d e : List ℕ) → (length d ≡ length e → ⊥) → ltb (length d) (length e) ≡ later d e
later_by_length d e apart =
    same_from_decides (ltb (length d) (length e)) (later d e)
    (Decides-like (ltb (length d) (length e)) (λ h. (later_in_words d e).1 (inl h)) (λ h. back ((later_in_words d e).0 h)) (Decides-ltb (length d) (length e)))
    (decides_later d e)
  where
    back : (length d < length e) ⊎ ((length d ≡ length e) × LaterWhereTheyLastDiffer d e) → length d < length e
    back (inl h) = h
    back (inr h) = absurd (apart h.0)
