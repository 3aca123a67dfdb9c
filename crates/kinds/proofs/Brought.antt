-- What bytes bring.
use Rattle.std.proofs.Common.{◌≡◌, ℕ, ◌+◌, ◌*◌, ◌/◌, true, List, [], ◌∷◌, map, length, sym, refl, ◌∙◌, w16}
use borrow.Author.Gap.{read_sfits}
use Rattle.std.proofs.lemmas.List.{length-map}
use Rattle.leaves.specs.Readings.{lowest}
use Rattle.leaves.specs.Taking.{all_between}
use Rattle.frames.specs.declared.size.ReadingSize.{ReadingSize}
use Rattle.frames.specs.declared.size.ReadingSize.TheVariants.{Two, Three}
use Rattle.frames.specs.Size.{bytes_each}
use Rattle.frames.specs.Readings.{reading_of, readings_in, pairs_in}
use Rattle.kinds.specs.Sides.{brought, port_of, code_of}
use Rattle.kinds.specs.Theorems.{BroughtInWords}
use Rattle.kinds.proofs.Frames.{halves, ports, port_fits}

one_fits : (bytes : List ℕ) → all_between lowest 65535 (readings_in bytes) ≡ true
one_fits [] = refl
one_fits (a ∷ []) = refl
one_fits (a ∷ b ∷ rest) = let e = port_fits (reading_of a b) (read_sfits w16 (a * 256 + b)) in simp e (one_fits rest)

both_fit : (bytes : List ℕ) → all_between lowest 65535 (map port_of (pairs_in bytes)) ≡ true
both_fit [] = refl
both_fit (a ∷ []) = refl
both_fit (a ∷ b ∷ []) = refl
both_fit (a ∷ b ∷ k ∷ rest) = let e = port_fits (reading_of a b) (read_sfits w16 (a * 256 + b)) in simp e (both_fit rest)

fits : (size : ReadingSize) (bytes : List ℕ) → all_between lowest 65535 (brought size bytes).port ≡ true
fits Two bytes = one_fits bytes
fits Three bytes = both_fit bytes

abbrev Counted : ReadingSize → Type 0
Counted size = (bytes : List ℕ) → length (brought size bytes).port ≡ length bytes / bytes_each size

count : (size : ReadingSize) → Counted size
count Two bytes = halves bytes
count Three bytes = ports bytes

pub brought_in_words : BroughtInWords
brought_in_words = record {
  port_fits = fits;
  counted = count;
  even = λ bytes. length-map (pairs_in bytes) code_of ∙ sym (length-map (pairs_in bytes) port_of);
  one_side = λ bytes. refl;
}
