-- One turn of a loop that puts the bytes of a list's entries.
use Rattle.std.proofs.Common.{◌≡◌, ℕ, ◌+◌, ◌<◌, List, [], ◌++◌, length, get_or, take, sym, refl, ap, ◌∙◌}
use Rattle.std.proofs.lemmas.List.{append_assoc, flat_map_more, take_more}
use Rattle.std.specs.List.{flat_map}
use Rattle.hexadecimal.specs.Digits.{text_of}
use Rattle.hexadecimal.proofs.Texts.{text_append}

module _ {X : Type 0} (f : X → List ℕ) (xs : List X) where
  pub put_more : (i : ℕ) (d : X) (old before after : List ℕ) → i < length xs → before ≡ old ++ text_of (flat_map f (take i xs)) → after ≡ before ++ text_of (f (get_or xs i d)) →
      after ≡ old ++ text_of (flat_map f (take (i + 1) xs))
  put_more i d old before after l inv put =
      let one : flat_map f (take (i + 1) xs) ≡ flat_map f (take i xs) ++ f (get_or xs i d) = ap (flat_map f) (take_more xs i d l) ∙ sym (flat_map_more f [] (take i xs) (get_or xs i d)) in
      put ∙ rw (inv, one, text_append, append_assoc) refl
