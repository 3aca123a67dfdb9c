-- A division as the starts of its stretches, the last first, and starts as a division.
use Rattle.std.proofs.Common.{◌≡◌, ℕ, ◌+◌, ◌-◌, ◌<◌, ◌≤◌, List, [], ◌∷◌, length, sym, refl, ap, subst, inl, inr, arith}
use Rattle.division.specs.Division.{EachStretch}
use Rattle.division.specs.Order.{Later}
use Rattle.search.specs.Starts.{Starts, NoLater, Falling, any_number, exactly, boundaries_of}

-- the starts of ds, the last first, put before those so far
abbrev pub starts_onto : List ℕ → List ℕ → List ℕ
starts_onto starts [] = starts
starts_onto starts (b ∷ ds) = starts_onto (b ∷ starts) ds

abbrev pub starts_of : List ℕ → List ℕ
starts_of ds = starts_onto (0 ∷ []) ds

-- a division from starts
module _ (P : ℕ → ℕ → Type 0) (n : ℕ) where
  steps : (a : ℕ) (more rest : List ℕ) → Starts (any_number P) tt a more → EachStretch P n a rest → EachStretch P n 0 (boundaries_of (a ∷ more) rest)
  steps a [] rest w h = subst (λ (x : ℕ). EachStretch P n x rest) w h
  steps a (b ∷ more) rest w h = steps b more (a ∷ rest) w.2 (w.1, h)

  pub division_of_starts : (ds : List ℕ) → 0 < n → Starts (any_number P) tt n ds → EachStretch P n 0 (boundaries_of ds [])
  division_of_starts [] pos w = absurd (omega (arith, w))
  division_of_starts (a ∷ more) pos w = steps a more [] w.2 w.1

falls_any : (P : ℕ → ℕ → Type 0) (t : ℕ) (ds : List ℕ) → Starts (any_number P) tt t ds → Falling t ds
falls_any P t [] w = w
falls_any P t (a ∷ more) w = (w.0, falls_any P a more w.2)

onto_boundaries : (a : ℕ) (more rest : List ℕ) → Falling a more → starts_of (boundaries_of (a ∷ more) rest) ≡ starts_onto (a ∷ more) rest
onto_boundaries a [] rest f = ap (λ (x : ℕ). starts_onto (x ∷ []) rest) (sym f)
onto_boundaries a (b ∷ more) rest f = onto_boundaries b more (a ∷ rest) f.1

pub starts_of_boundaries : (t : ℕ) (ds : List ℕ) → 0 < t → Falling t ds → starts_of (boundaries_of ds []) ≡ ds
starts_of_boundaries t [] pos f = absurd (omega (arith, f))
starts_of_boundaries t (a ∷ more) pos f = onto_boundaries a more [] f.1

-- starts from a division
module _ (P : ℕ → ℕ → Type 0) (rises : (a b : ℕ) → P a b → a < b) (t : ℕ) where
  goes_on : (a : ℕ) (acc ds : List ℕ) → Starts (any_number P) tt a acc → EachStretch P t a ds → Starts (any_number P) tt t (starts_onto (a ∷ acc) ds)
  goes_on a acc [] w h = (rises a t h, h, w)
  goes_on a acc (b ∷ ds) w h = goes_on b (a ∷ acc) ds (rises a b h.0, h.0, w) h.1

  pub starts_of_division : (ds : List ℕ) → EachStretch P t 0 ds → Starts (any_number P) tt t (starts_of ds)
  starts_of_division ds h = goes_on 0 [] ds refl h

-- the later division has the later starts
no_later_front : (xs A B : List ℕ) → NoLater (starts_onto A xs) (starts_onto B xs) → NoLater A B
no_later_front [] A B h = h
no_later_front (z ∷ xs) A B h = elim (no_later_front xs (z ∷ A) (z ∷ B) h) [ inl l ↦ absurd (omega arith) | inr q ↦ q.1 ]

later_onto : (e d A B : List ℕ) → Later e d → length e ≡ length d → NoLater (starts_onto A e) (starts_onto B d) → ⊥
later_onto [] [] A B l q u = l
later_onto [] (y ∷ d) A B l q u = omega arith
later_onto (x ∷ e) [] A B l q u = l
later_onto (x ∷ e) (y ∷ d) A B (inl l) q u = later_onto e d (x ∷ A) (y ∷ B) l (omega arith) u
later_onto (x ∷ e) (y ∷ d) A B (inr l) q u =
    elim (no_later_front d (x ∷ A) (y ∷ B) (subst (λ (z : List ℕ). NoLater (starts_onto (x ∷ A) z) (starts_onto (y ∷ B) d)) l.0 u)) [
      | inl k ↦ omega (arith, l.1)
      | inr k ↦ omega (arith, l.1, k.0)
    ]

pub later_starts : (e d : List ℕ) → Later e d → length e ≡ length d → NoLater (starts_of e) (starts_of d) → ⊥
later_starts e d = later_onto e d (0 ∷ []) (0 ∷ [])

pub later_length : (d e : List ℕ) → Later d e → length d ≤ length e
later_length [] [] h = absurd h
later_length [] (y ∷ ys) h = omega arith
later_length (x ∷ xs) [] h = absurd h
later_length (x ∷ xs) (y ∷ ys) (inl h) = let r : length xs ≤ length ys = later_length xs ys h in omega arith
later_length (x ∷ xs) (y ∷ ys) (inr h) = let r : length xs ≡ length ys = ap length h.0 in omega arith

-- how many stretches
pub any_many : (P : ℕ → ℕ → Type 0) (s t : ℕ) (ds : List ℕ) → Starts (exactly P) s t ds → Starts (any_number P) tt t ds × (length ds ≡ s)
any_many P s t [] w = (w.1, sym w.0)
any_many P s t (a ∷ more) w =
    let r = any_many P (s - 1) a more w.2 in
    ((w.0, w.1.1, r.0), omega (arith, r.1, w.1.0))

pub exactly_many : (P : ℕ → ℕ → Type 0) (s t : ℕ) (ds : List ℕ) → Starts (any_number P) tt t ds → length ds ≡ s → Starts (exactly P) s t ds
exactly_many P s t [] w e = (sym e, w)
exactly_many P s t (a ∷ more) w e = (w.0, (omega arith, w.1), exactly_many P (s - 1) a more w.2 (omega arith))

length_onto : (A ds : List ℕ) → length (starts_onto A ds) ≡ length ds + length A
length_onto A [] = omega arith
length_onto A (b ∷ ds) = omega (arith, length_onto (b ∷ A) ds)

pub length_starts : (ds : List ℕ) → length (starts_of ds) ≡ length ds + 1
length_starts ds = length_onto (0 ∷ []) ds
