-- A turn of a part of a slice by one place inserts an element there, or removes one.
use Rattle.std.proofs.Common.{◌≡◌, ℕ, suc, ◌+◌, ◌-◌, ◌<◌, ◌≤◌, List, [], ◌∷◌, ◌++◌, length, take, drop, set, sym, ap, ◌∙◌, add-one, arith}
use borrow.Rule.Slice.PartMut.{put_mid}
use Rattle.std.specs.List.{insert, remove}
use Rattle.std.proofs.lemmas.List.{length-take, length-drop, length-set, length-append, length_push, take_more_set, drop-append-le, drop_at, take_at, take-take, take-set-le, drop-drop, append_assoc}
use Rattle.std.proofs.lemmas.Slice.{between_is, take-put_mid}

-- The last of a list put in front of the others.
pub turned : {X : Type 0} (ps : List X) (m : X) → drop (length (ps ++ m ∷ []) - 1) (ps ++ m ∷ []) ++ take (length (ps ++ m ∷ []) - 1) (ps ++ m ∷ []) ≡ m ∷ ps
turned ps m =
    let l : length ps ≡ length (ps ++ m ∷ []) - 1 = omega (arith, length_push ps m) in
    rw (drop_at ps (m ∷ []) _ l, take_at ps (m ∷ []) _ l)

-- The part of the slice that turns.
pub tail_part : {X : Type 0} (xs : List X) (len at : ℕ) (m : X) → at ≤ len → len < length xs → take (len + 1 - at) (drop at (set xs len m)) ≡ drop at (take len xs) ++ m ∷ []
tail_part xs len at m h k =
    let l : at ≤ length (take len xs) = omega (arith, length-take len xs) in
    between_is (set xs len m) at (len + 1) ∙ ap (λ t. drop at t) (take_more_set xs len m k) ∙ drop-append-le at (take len xs) (m ∷ []) l

-- What `insert` leaves.
pub insert_is : {X : Type 0} (xs : List X) (len at : ℕ) (m : X) (part rot : List X) → at ≤ len → len < length xs → part ≡ take (len + 1 - at) (drop at (set xs len m)) → rot ≡ drop (length part - 1) part ++ take (length part - 1) part → take (len + 1) (put_mid at (len + 1 - at) (set xs len m) rot) ≡ insert (take len xs) at m
insert_is xs len at m part rot h k p e =
    let r : rot ≡ m ∷ drop at (take len xs) = e ∙ ap (λ t. drop (length t - 1) t ++ take (length t - 1) t) (p ∙ tail_part xs len at m h k) ∙ turned (drop at (take len xs)) m in
    let n : length rot ≡ suc (length (drop at (take len xs))) = ap length r in
    let q : len + 1 ≡ at + length rot = omega (arith, length-drop at (take len xs), length-take len xs) in
    take-put_mid at (len + 1 - at) (set xs len m) rot (len + 1) q (omega (arith, length-set xs len m))
    ∙ ap (λ t. take at (set xs len m) ++ t) r
    ∙ ap (λ t. t ++ m ∷ drop at (take len xs)) (take-set-le at xs len m h ∙ sym (take-take at len xs h))

-- What `remove` leaves.
pub remove_is : {X : Type 0} (xs : List X) (len at : ℕ) (part rot : List X) → at < len → len ≤ length xs → part ≡ take (len - at) (drop at xs) → rot ≡ drop 1 part ++ take 1 part → take (len - 1) (put_mid at (len - at) xs rot) ≡ remove (take len xs) at
remove_is xs len at part rot h k p e =
    let q : part ≡ drop at (take len xs) = p ∙ between_is xs at len in
    let n : length part ≡ len - at = ap length q ∙ omega (arith, length-drop at (take len xs), length-take len xs) in
    let m : length rot ≡ len - at = ap length e ∙ omega (arith, length-append (drop 1 part) (take 1 part), length-drop 1 part, length-take 1 part) in
    let f : length (take at xs ++ drop 1 part) ≡ len - 1 = omega (arith, length-append (take at xs) (drop 1 part), length-drop 1 part, length-take at xs) in
    sym (take-take (len - 1) len (put_mid at (len - at) xs rot) (omega arith))
    ∙ ap (λ t. take (len - 1) t) (take-put_mid at (len - at) xs rot len (omega arith) (omega arith) ∙ ap (λ t. take at xs ++ t) e ∙ sym (append_assoc (take at xs) (drop 1 part) (take 1 part)))
    ∙ take_at (take at xs ++ drop 1 part) (take 1 part) (len - 1) f
    ∙ ap (λ t. take at xs ++ drop 1 t) q
    ∙ ap (λ t. take at xs ++ t) (drop-drop 1 at (take len xs) ∙ ap (λ i. drop i (take len xs)) (add-one at))
    ∙ ap (λ t. t ++ drop (suc at) (take len xs)) (sym (take-take at len xs (omega arith)))
