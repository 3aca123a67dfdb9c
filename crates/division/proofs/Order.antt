-- `Beats` is a strict total order, and `Later` in words.
use Rattle.std.proofs.Common.{◌≡◌, ℕ, suc, ◌<◌, ◌⊎◌, List, [], ◌∷◌, ◌++◌, length, sym, refl, ap, ◌∙◌, ap₂, inl, inr, arith, length-append}
use Rattle.std.proofs.lemmas.Bool.{cases_order}
use Rattle.division.specs.Order.{Later, Beats, LaterWhereTheyLastDiffer}
use Rattle.division.specs.Theorems.{LaterInWords}

pub later_self : (xs : List ℕ) → Later xs xs → ⊥
later_self [] h = h
later_self (x ∷ xs) (inl h) = later_self xs h
later_self (x ∷ xs) (inr h) = omega arith

pub later_trans : (xs ys zs : List ℕ) → Later xs ys → Later ys zs → Later xs zs
later_trans [] [] zs h k = absurd h
later_trans [] (y ∷ ys) [] h k = absurd k
later_trans [] (y ∷ ys) (z ∷ zs) h k = tt
later_trans (x ∷ xs) [] zs h k = absurd h
later_trans (x ∷ xs) (y ∷ ys) [] h k = absurd k
later_trans (x ∷ xs) (y ∷ ys) (z ∷ zs) (inl h) (inl k) = inl (later_trans xs ys zs h k)
later_trans (x ∷ xs) (y ∷ ys) (z ∷ zs) (inl h) (inr k) = inl (rw k.0 at h)
later_trans (x ∷ xs) (y ∷ ys) (z ∷ zs) (inr h) (inl k) = inl (rw h.0 k)
later_trans (x ∷ xs) (y ∷ ys) (z ∷ zs) (inr h) (inr k) = inr (h.0 ∙ k.0, omega arith)

pub later_total : (xs ys : List ℕ) → (xs ≡ ys) ⊎ (Later xs ys ⊎ Later ys xs)
later_total [] [] = inl refl
later_total [] (y ∷ ys) = inr (inl tt)
later_total (x ∷ xs) [] = inr (inr tt)
later_total (x ∷ xs) (y ∷ ys) = go (later_total xs ys) (cases_order x y)
  where
    go : (xs ≡ ys) ⊎ (Later xs ys ⊎ Later ys xs) → (x ≡ y) ⊎ ((x < y) ⊎ (y < x)) → ((x ∷ xs) ≡ (y ∷ ys)) ⊎ (Later (x ∷ xs) (y ∷ ys) ⊎ Later (y ∷ ys) (x ∷ xs))
    go (inl e) (inl q) = inl (ap₂ ◌∷◌ q e)
    go (inl e) (inr (inl q)) = inr (inr (inr (sym e, q)))
    go (inl e) (inr (inr q)) = inr (inl (inr (e, q)))
    go (inr (inl h)) q = inr (inl (inl h))
    go (inr (inr h)) q = inr (inr (inl h))

module _ (cost : List ℕ → ℕ) where
  pub beats_self : (d : List ℕ) → Beats cost d d → ⊥
  beats_self d (inl h) = omega arith
  beats_self d (inr h) = later_self d h.1

  pub beats_trans : (d e g : List ℕ) → Beats cost d e → Beats cost e g → Beats cost d g
  beats_trans d e g (inl h) (inl k) = inl (omega arith)
  beats_trans d e g (inl h) (inr k) = inl (omega arith)
  beats_trans d e g (inr h) (inl k) = inl (omega arith)
  beats_trans d e g (inr h) (inr k) = inr (h.0 ∙ k.0, later_trans d e g h.1 k.1)

  pub beats_total : (d e : List ℕ) → (d ≡ e) ⊎ (Beats cost d e ⊎ Beats cost e d)
  beats_total d e = go (cases_order (cost d) (cost e)) (later_total d e)
    where
      go : (cost d ≡ cost e) ⊎ ((cost d < cost e) ⊎ (cost e < cost d)) → (d ≡ e) ⊎ (Later d e ⊎ Later e d) → (d ≡ e) ⊎ (Beats cost d e ⊎ Beats cost e d)
      go q (inl e) = inl e
      go (inl q) (inr (inl h)) = inr (inl (inr (q, h)))
      go (inl q) (inr (inr h)) = inr (inr (inr (sym q, h)))
      go (inr (inl q)) (inr h) = inr (inl (inl q))
      go (inr (inr q)) (inr h) = inr (inr (inl q))

-- `Later` in words
pub later_short : (d e : List ℕ) → length d < length e → Later d e
later_short [] [] h = absurd (omega arith)
later_short [] (y ∷ ys) h = tt
later_short (x ∷ xs) [] h = absurd (omega arith)
later_short (x ∷ xs) (y ∷ ys) h = inl (later_short xs ys (omega arith))

later_at : (c c' : List ℕ) (x y : ℕ) (r : List ℕ) → length (c ++ x ∷ r) ≡ length (c' ++ y ∷ r) → y < x → Later (c ++ x ∷ r) (c' ++ y ∷ r)
later_at [] [] x y r q l = inr (refl, l)
later_at [] (b ∷ c') x y r q l = absurd (omega (arith, length-append c' (y ∷ r)))
later_at (a ∷ c) [] x y r q l = absurd (omega (arith, length-append c (x ∷ r)))
later_at (a ∷ c) (b ∷ c') x y r q l = inl (later_at c c' x y r (omega arith) l)

to_words : (d e : List ℕ) → Later d e → (length d < length e) ⊎ ((length d ≡ length e) × LaterWhereTheyLastDiffer d e)
to_words [] [] h = absurd h
to_words [] (y ∷ ys) h = inl (omega arith)
to_words (x ∷ xs) [] h = absurd h
to_words (x ∷ xs) (y ∷ ys) (inl h) = go (to_words xs ys h)
  where
    go : (length xs < length ys) ⊎ ((length xs ≡ length ys) × LaterWhereTheyLastDiffer xs ys) → (length (x ∷ xs) < length (y ∷ ys)) ⊎ ((length (x ∷ xs) ≡ length (y ∷ ys)) × LaterWhereTheyLastDiffer (x ∷ xs) (y ∷ ys))
    go (inl k) = inl (omega arith)
    go (inr k) =
        let p : LaterWhereTheyLastDiffer xs ys = k.1 in
        inr (ap suc k.0, record { front_d = x ∷ p.front_d; front_e = y ∷ p.front_e; x = p.x; y = p.y; rest = p.rest; d_is = ap (λ z. x ∷ z) p.d_is; e_is = ap (λ z. y ∷ z) p.e_is; later = p.later })
to_words (x ∷ xs) (y ∷ ys) (inr h) =
    inr (ap (λ z. suc (length z)) h.0, record { front_d = []; front_e = []; x = x; y = y; rest = xs; d_is = refl; e_is = ap (λ z. y ∷ z) (sym h.0); later = h.1 })

pub later_in_words : LaterInWords
later_in_words d e = (to_words d e, from)
  where
    from : (length d < length e) ⊎ ((length d ≡ length e) × LaterWhereTheyLastDiffer d e) → Later d e
    from (inl h) = later_short d e h
    from (inr h) =
        let p : LaterWhereTheyLastDiffer d e = h.1 in
        let l : length (p.front_d ++ p.x ∷ p.rest) ≡ length (p.front_e ++ p.y ∷ p.rest) = sym (ap length p.d_is) ∙ h.0 ∙ ap length p.e_is in
        rw (p.d_is, p.e_is) (later_at p.front_d p.front_e p.x p.y p.rest l p.later)
